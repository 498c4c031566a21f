-- The meaning determines canonical arcs of form 1: the forced units and their cost determine the fixed arcs, and the
-- cost of filling determines the free arcs.
use Rattle.std.proofs.Common.{◌≡◌, ℤ, pos, ◌+ℤ◌, ◌-ℤ◌, ◌*ℤ◌, ◌≤ℤ◌, ◌<ℤ◌, List, [], ◌∷◌, refl, sym, ap, subst, arith, ◌∙◌}
use Rattle.std.proofs.lemmas.Int.{ints, by_lt_z}
use Rattle.std.specs.Int.Signed.{≤ℤ_refl}
use Rattle.std.proofs.Math.IntN.{*ℤ_comm}
use Rattle.dn_arc_theory.specs.declared.arc.CostArc.{CostArc}
use Rattle.dn_arc_theory.specs.Splits.{LeastCost}
use Rattle.dn_arc_theory.specs.Meanings.{SameCurve}
use Rattle.dn_arc_theory.specs.State.Means.{IsFloor}
use Rattle.dn_arc_theory.specs.Canonical.{IsFixedArc, IsFreeArc, IsFormOne}
use Rattle.dn_arc_theory.specs.Fillings.{forced_units, forced_cost}
use Rattle.dn_arc_theory.specs.State.FillCosts.{room, free_room, fill_cost, IsFilling}
use Rattle.dn_arc_theory.proofs.ProductsLaws.{mul_add, mul_suc, mul_mono}
use Rattle.dn_arc_theory.proofs.FillsLaws.{AreOrdered, fill_low, fill_high, fill_zero, room_some, filling_of_least, least_of_filling}
use Rattle.dn_arc_theory.proofs.FormsLaws.{AreFree, AreFixed, IsApart, rest_free, fixed_of, free_of, free_ordered, form_one_ordered, apart_form}

pub arc_same : (a b : CostArc) → a.low ≡ b.low → a.cap ≡ b.cap → a.cost ≡ b.cost → a ≡ b
arc_same a b l u p =
    ap (λ (z : ℤ). let x : CostArc = record { low = z; cap = a.cap; cost = a.cost } in x) l
    ∙ ap (λ (z : ℤ). let x : CostArc = record { low = b.low; cap = z; cost = a.cost } in x) u
    ∙ ap (λ (z : ℤ). let x : CostArc = record { low = b.low; cap = b.cap; cost = z } in x) p

pub cancel : (k x y : ℤ) → k +ℤ x ≡ k +ℤ y → x ≡ y
cancel k x y h = omega (arith, ints)

-- two lists have the same forced units, forced cost and free capacity, and the same cost of filling them
pub record IsSameFill (xs ys : List CostArc) : Type 0 where
  pub units : forced_units xs ≡ forced_units ys
  pub cost : forced_cost xs ≡ forced_cost ys
  pub whole : free_room xs ≡ free_room ys
  pub each : (y : ℤ) → pos 0 ≤ℤ y → y ≤ℤ free_room xs → fill_cost xs y ≡ fill_cost ys y

-- what filling one list shows of another list that means the same
record IsShown (xs ys : List CostArc) (y : ℤ) : Type 0 where
  low : forced_units ys ≤ℤ (forced_units xs +ℤ y)
  high : ((forced_units xs +ℤ y) -ℤ forced_units ys) ≤ℤ free_room ys
  cost : forced_cost xs +ℤ fill_cost xs y ≡ forced_cost ys +ℤ fill_cost ys ((forced_units xs +ℤ y) -ℤ forced_units ys)

shown : (xs ys : List CostArc) → AreOrdered xs → AreOrdered ys → ((x k : ℤ) → LeastCost xs x k → LeastCost ys x k)
    → (y : ℤ) → pos 0 ≤ℤ y → y ≤ℤ free_room xs → IsShown xs ys y
shown xs ys o p s y l u =
    let back : (forced_units xs +ℤ y) -ℤ forced_units xs ≡ y = omega (arith, ints) in
    let here : IsFilling xs (forced_units xs +ℤ y) (forced_cost xs +ℤ fill_cost xs y) = record {
      low = omega (arith, ints);
      high = omega (arith, ints);
      cost = ap (λ z. forced_cost xs +ℤ fill_cost xs z) (sym back);
    } in
    let there = filling_of_least ys _ _ p (s _ _ (least_of_filling xs _ _ o here)) in
    record { low = there.low; high = there.high; cost = there.cost }

-- sorted lists that mean the same have equal filling costs
pub same_fill : (xs ys : List CostArc) → AreOrdered xs → AreOrdered ys → SameCurve xs ys → IsSameFill xs ys
same_fill xs ys o p s =
    let c1 = room_some xs o in
    let c2 = room_some ys p in
    let there = shown xs ys o p s.there in
    let back = shown ys xs p o s.back in
    let l1 = (there (pos 0) (≤ℤ_refl _) c1).low in
    let l2 = (back (pos 0) (≤ℤ_refl _) c2).low in
    let units : forced_units xs ≡ forced_units ys = omega (arith, ints) in
    let h1 = (there (free_room xs) c1 (≤ℤ_refl _)).high in
    let h2 = (back (free_room ys) c2 (≤ℤ_refl _)).high in
    let at : (y : ℤ) → (forced_units xs +ℤ y) -ℤ forced_units ys ≡ y = λ y. omega (arith, ints) in
    let even : (y : ℤ) → pos 0 ≤ℤ y → y ≤ℤ free_room xs
    → forced_cost xs +ℤ fill_cost xs y ≡ forced_cost ys +ℤ fill_cost ys y =
    λ y l u. (there y l u).cost ∙ ap (λ z. forced_cost ys +ℤ fill_cost ys z) (at y) in
    let e0 = even (pos 0) (≤ℤ_refl _) c1 in
    let z1 = fill_zero xs o in
    let z2 = fill_zero ys p in
    let cost : forced_cost xs ≡ forced_cost ys = omega (arith, ints, e0, z1, z2) in
    record {
      units = units;
      cost = cost;
      whole = omega (arith, ints);
      each = λ y l u. cancel (forced_cost ys) _ _ (ap (λ z. z +ℤ fill_cost xs y) (sym cost) ∙ even y l u);
    }

-- two lists of free arcs have equal filling costs
pub record IsSameFree (f g : List CostArc) : Type 0 where
  pub whole : free_room f ≡ free_room g
  pub each : (y : ℤ) → pos 0 ≤ℤ y → y ≤ℤ free_room f → fill_cost f y ≡ fill_cost g y

-- arcs that are filled as free parts with equal filling costs
pub same_free : {xs ys fx fy f g : List CostArc} → IsApart xs fx f → IsApart ys fy g → IsSameFill xs ys → IsSameFree f g
same_free a b t = record {
  whole = sym a.room ∙ t.whole ∙ b.room;
  each = λ y l u. sym (a.fill y l) ∙ t.each y l (rw a.room u) ∙ b.fill y l;
}

flip : (f g : List CostArc) → IsSameFree f g → IsSameFree g f
flip f g s = record { whole = sym s.whole; each = λ y h k. sym (s.each y h (rw s.whole k)) }

some_free : (f : List CostArc) → AreFree f → pos 0 ≤ℤ free_room f
some_free f p = room_some f (free_ordered f p)

at_one : (a : CostArc) (rest : List CostArc) → IsFreeArc a → fill_cost (a ∷ rest) (pos 1) ≡ a.cost
at_one a rest f =
    let e = fill_low a rest (pos 1) (omega (arith, ints)) in
    let m : a.cost *ℤ pos 1 ≡ a.cost = omega (arith, ints) in
    e ∙ m

-- the cost of filling the arcs beyond the first arc
after : (a : CostArc) (rest : List CostArc) (y : ℤ) → pos 0 <ℤ y
    → fill_cost (a ∷ rest) (room a +ℤ y) ≡ (a.cost *ℤ room a) +ℤ fill_cost rest y
after a rest y h =
    fill_high a rest (room a +ℤ y) (omega (arith, ints))
    ∙ ap (λ z. (a.cost *ℤ room a) +ℤ fill_cost rest z) (let e : (room a +ℤ y) -ℤ room a ≡ y = omega (arith, ints) in e)

same_cost : (a b : CostArc) (f g : List CostArc) → AreFree (a ∷ f) → AreFree (b ∷ g) → IsSameFree (a ∷ f) (b ∷ g)
    → a.cost ≡ b.cost
same_cost a b f g p q s =
    let rest = some_free f (rest_free a f p) in
    sym (at_one a f p.each.0) ∙ s.each (pos 1) (omega (arith, ints)) (omega (arith, ints)) ∙ at_one b g q.each.0

no_slope : (c d u x y : ℤ) → c <ℤ d → x ≡ (c *ℤ u) +ℤ d → y ≡ c *ℤ (u +ℤ pos 1) → x ≡ y → ⊥
no_slope c d u x y h e f s = let g = mul_suc c u in absurd (omega (arith, ints))

not_less : (a b : CostArc) (f g : List CostArc) → AreFree (a ∷ f) → AreFree (b ∷ g) → IsSameFree (a ∷ f) (b ∷ g)
    → room a <ℤ room b → ⊥
not_less a b [] g p q s h =
    let e = s.whole in
    let k = some_free g (rest_free b g q) in
    absurd (omega (arith, ints))
not_less a b (e ∷ f) g p q s h =
    let cost = same_cost a b (e ∷ f) g p q s in
    let k = some_free g (rest_free b g q) in
    let left =
    after a (e ∷ f) (pos 1) (omega (arith, ints)) ∙ ap (λ z. (a.cost *ℤ room a) +ℤ z) (at_one e f p.each.1.0) in
    let right = fill_low b g (room a +ℤ pos 1) (omega (arith, ints)) ∙ ap (λ z. z *ℤ (room a +ℤ pos 1)) (sym cost) in
    no_slope a.cost e.cost (room a) _ _ p.ascending.0.0 left right
    (s.each (room a +ℤ pos 1) (omega (arith, ints)) (omega (arith, ints)))

same_room : (a b : CostArc) (f g : List CostArc) → AreFree (a ∷ f) → AreFree (b ∷ g) → IsSameFree (a ∷ f) (b ∷ g)
    → room a ≡ room b
same_room a b f g p q s =
    by_lt_z (room a) (room b) (λ lt. absurd (not_less a b f g p q s lt)) (λ le.
    by_lt_z (room b) (room a) (λ lt. absurd (not_less b a g f q p (flip (a ∷ f) (b ∷ g) s) lt))
    (λ ge. omega (arith, ints)))

same_rest : (a : CostArc) (f g : List CostArc) → AreFree (a ∷ f) → AreFree (a ∷ g) → IsSameFree (a ∷ f) (a ∷ g)
    → IsSameFree f g
same_rest a f g p q s = record {
  whole = cancel (room a) _ _ s.whole;
  each = λ y h k.
      by_lt_z (pos 0) y
      (λ lt.
      let none = p.each.0.none in
      cancel (a.cost *ℤ room a) _ _
      (sym (after a f y lt) ∙ s.each (room a +ℤ y) (omega (arith, ints)) (omega (arith, ints)) ∙ after a g y lt))
      (λ le.
      let none : pos 0 ≡ y = omega (arith, ints) in
      rw (← none)
      (fill_zero f (free_ordered f (rest_free a f p)) ∙ sym (fill_zero g (free_ordered g (rest_free a g q)))));
}

same_cap : (a b : CostArc) → IsFreeArc a → IsFreeArc b → room a ≡ room b → a.cap ≡ b.cap
same_cap a b p q e = omega (arith, ints)

-- the cost of filling determines free arcs
pub free_same : (f g : List CostArc) → AreFree f → AreFree g → IsSameFree f g → f ≡ g
free_same [] [] p q s = refl
free_same [] (b ∷ g) p q s = let e = s.whole in let k = some_free g (rest_free b g q) in absurd (omega (arith, ints))
free_same (a ∷ f) [] p q s = let e = s.whole in let k = some_free f (rest_free a f p) in absurd (omega (arith, ints))
free_same (a ∷ f) (b ∷ g) p q s =
    let e =
    arc_same a b (p.each.0.none ∙ sym q.each.0.none) (same_cap a b p.each.0 q.each.0 (same_room a b f g p q s))
    (same_cost a b f g p q s) in
    let q' : AreFree (a ∷ g) = subst (λ x. AreFree (x ∷ g)) (sym e) q in
    let s' : IsSameFree (a ∷ f) (a ∷ g) = subst (λ x. IsSameFree (a ∷ f) (x ∷ g)) (sym e) s in
    ap (λ l. a ∷ l) (free_same f g (rest_free a f p) (rest_free a g q') (same_rest a f g p q' s')) ∙ ap (λ x. x ∷ g) e

not_cheaper : (all units c r d t : ℤ) → IsFloor all units c r → IsFloor all units d t → c <ℤ d → ⊥
not_cheaper all units c r d t p q h =
    let u = p.high in
    let m = mul_mono (c +ℤ pos 1) d units (omega (arith, ints)) (omega (arith, ints)) in
    let g : (c +ℤ pos 1) *ℤ units ≡ (c *ℤ units) +ℤ units = grows c units in
    absurd (omega (arith, ints))
  where
    grows : (c u : ℤ) → (c +ℤ pos 1) *ℤ u ≡ (c *ℤ u) +ℤ u
    grows c u = *ℤ_comm (c +ℤ pos 1) u ∙ mul_suc u c ∙ ap (λ z. z +ℤ u) (*ℤ_comm u c)

spread_each : (all units c r d t : ℤ) → IsFloor all units c r → IsFloor all units d t → c ≡ d
spread_each all units c r d t p q =
    by_lt_z c d (λ lt. absurd (not_cheaper all units c r d t p q lt)) (λ le.
    by_lt_z d c (λ lt. absurd (not_cheaper all units d t c r q p lt)) (λ ge. omega (arith, ints)))

spread_rest : (all units c r d t : ℤ) → IsFloor all units c r → IsFloor all units d t → r ≡ t
spread_rest all units c r d t p q = omega (arith, ints, ap (λ z. z *ℤ units) (spread_each all units c r d t p q))

one_spread : (a : CostArc) → IsFixedArc a → IsFloor (forced_cost (a ∷ [])) (forced_units (a ∷ [])) a.cost (pos 0)
one_spread a f =
    let m = mul_add a.cost a.low (pos 0) in
    let z : a.cost *ℤ pos 0 ≡ pos 0 = omega (arith, ints) in
    record { whole = omega (arith, ints); low = ≤ℤ_refl _; high = omega (arith, ints) }

two_spread : (a b : CostArc) → IsFixedArc a → IsFixedArc b → b.cost ≡ a.cost +ℤ pos 1
    → IsFloor (forced_cost (a ∷ b ∷ [])) (forced_units (a ∷ b ∷ [])) a.cost b.low
two_spread a b f g e =
    record { whole = cost_two a.cost a.low b.low b.cost e; low = omega (arith, ints); high = omega (arith, ints) }
  where
    cost_two : (c u v d : ℤ) → d ≡ c +ℤ pos 1 → (c *ℤ u) +ℤ ((d *ℤ v) +ℤ pos 0) ≡ (c *ℤ (u +ℤ (v +ℤ pos 0))) +ℤ v
    cost_two c u v d e =
        let g = ap (λ z. z *ℤ v) e ∙ *ℤ_comm (c +ℤ pos 1) v ∙ mul_suc v c ∙ ap (λ z. z +ℤ v) (*ℤ_comm v c) in
        let h = mul_add c u (v +ℤ pos 0) in
        let k = ap (λ z. c *ℤ z) (let k : v +ℤ pos 0 ≡ v = omega (arith, ints) in k) in
        omega (arith, ints)

arc_of : (a b : CostArc) → IsFixedArc a → IsFixedArc b → a.low ≡ b.low → a.cost ≡ b.cost → a ≡ b
arc_of a b f g l p = arc_same a b l (f.full ∙ l ∙ sym g.full) p

-- the forced units and their cost determine fixed arcs
pub fixed_same : (f g : List CostArc) → AreFixed f → AreFixed g → forced_units f ≡ forced_units g
    → forced_cost f ≡ forced_cost g → f ≡ g
fixed_same [] [] p q u c = refl
fixed_same [] (b ∷ []) p q u c = absurd (omega (arith, ints))
fixed_same [] (b ∷ d ∷ []) p q u c = absurd (omega (arith, ints))
fixed_same (a ∷ []) [] p q u c = absurd (omega (arith, ints))
fixed_same (a ∷ b ∷ []) [] p q u c = absurd (omega (arith, ints))
fixed_same (a ∷ []) (b ∷ []) p q u c =
    let s = one_spread a p.each.0 in
    let t : IsFloor (forced_cost (a ∷ [])) (forced_units (a ∷ [])) b.cost (pos 0) = rw (u, c) (one_spread b q.each.0) in
    ap (λ x. x ∷ []) (arc_of a b p.each.0 q.each.0 (omega (arith, ints)) (spread_each _ _ _ _ _ _ s t))
fixed_same (a ∷ []) (b ∷ d ∷ []) p q u c =
    let s = one_spread a p.each.0 in
    let t : IsFloor (forced_cost (a ∷ [])) (forced_units (a ∷ [])) b.cost d.low =
    rw (u, c) (two_spread b d q.each.0 q.each.1.0 q.near) in
    let e = spread_rest _ _ _ _ _ _ s t in
    absurd (omega (arith, ints))
fixed_same (a ∷ b ∷ []) (d ∷ []) p q u c =
    let s = two_spread a b p.each.0 p.each.1.0 p.near in
    let t : IsFloor (forced_cost (a ∷ b ∷ [])) (forced_units (a ∷ b ∷ [])) d.cost (pos 0) =
    rw (u, c) (one_spread d q.each.0) in
    let e = spread_rest _ _ _ _ _ _ s t in
    absurd (omega (arith, ints))
fixed_same (a ∷ b ∷ []) (d ∷ e ∷ []) p q u c =
    let s = two_spread a b p.each.0 p.each.1.0 p.near in
    let t : IsFloor (forced_cost (a ∷ b ∷ [])) (forced_units (a ∷ b ∷ [])) d.cost e.low =
    rw (u, c) (two_spread d e q.each.0 q.each.1.0 q.near) in
    let each = spread_each _ _ _ _ _ _ s t in
    let rest = spread_rest _ _ _ _ _ _ s t in
    ap (λ x. x ∷ b ∷ []) (arc_of a d p.each.0 q.each.0 (omega (arith, ints)) each)
    ∙ ap (λ x. d ∷ x ∷ []) (arc_of b e p.each.1.0 q.each.1.0 rest (p.near ∙ ap (λ z. z +ℤ pos 1) each ∙ sym q.near))
fixed_same (a ∷ b ∷ c' ∷ f) g p q u c = absurd p.near
fixed_same f (a ∷ b ∷ c' ∷ g) p q u c = absurd q.near

-- two lists of form 1 that mean the same are equal
pub determination_one : (xs ys : List CostArc) → IsFormOne xs → IsFormOne ys → SameCurve xs ys → xs ≡ ys
determination_one xs ys p q s =
    let t = same_fill xs ys (form_one_ordered xs p) (form_one_ordered ys q) s in
    let a = apart_form xs p in
    let b = apart_form ys q in
    let u = sym a.units ∙ t.units ∙ b.units in
    let e = fixed_same p.fixed q.fixed (fixed_of xs p) (fixed_of ys q) u (sym a.cost ∙ t.cost ∙ b.cost) in
    let f = free_same p.free q.free (free_of xs p) (free_of ys q) (same_free a b t) in
    rw (p.parts, q.parts, e, f)
