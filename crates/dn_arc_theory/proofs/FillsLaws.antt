-- If free capacity is sorted by ascending cost, the least cost of an amount is the cost of filling the arcs in their
-- order.
use Rattle.std.proofs.Common.{◌≡◌, ℤ, pos, ◌+ℤ◌, ◌-ℤ◌, ◌*ℤ◌, ◌≤ℤ◌, ◌<ℤ◌, ◌↔◌, List, [], ◌∷◌, refl, ap, subst, arith}
use Rattle.std.proofs.lemmas.Int.{ints, by_lt_z}
use Rattle.std.specs.List.{AllByRecursion}
use Rattle.std.specs.Int.Signed.{≤ℤ_refl}
use Rattle.dn_arc_theory.specs.declared.arc.CostArc.{CostArc}
use Rattle.dn_arc_theory.specs.Splits.{LeastCost}
use Rattle.dn_arc_theory.specs.Canonical.{IsCostArc}
use Rattle.dn_arc_theory.specs.Fillings.{forced_units, forced_cost}
use Rattle.dn_arc_theory.specs.State.FillCosts.{room, free_room, fill_cost, IsFilling}
use Rattle.dn_arc_theory.proofs.ProductsLaws.{mul_add, mul_sub, mul_mono}
use Rattle.dn_arc_theory.proofs.SharesLaws.{AtMost}
use Rattle.dn_arc_theory.proofs.SplitsLaws.{least_bottom, bottom_least, antisym}

-- no arc with free capacity has a lower cost
abbrev pub NoneCheaper : ℤ → List CostArc → Type 0
NoneCheaper c arcs = AllByRecursion (λ (b : CostArc). pos 0 <ℤ room b → c ≤ℤ b.cost) arcs

-- the arcs with free capacity are sorted by cost
abbrev pub AreOrdered : List CostArc → Type 0
AreOrdered [] = Unit {0}
AreOrdered (a ∷ rest) = IsCostArc a × (pos 0 <ℤ room a → NoneCheaper a.cost rest) × AreOrdered rest

pub fill_low : (a : CostArc) (rest : List CostArc) (y : ℤ) → y ≤ℤ room a → fill_cost (a ∷ rest) y ≡ a.cost *ℤ y
fill_low a rest y h = grind (arith, ints)

pub fill_high : (a : CostArc) (rest : List CostArc) (y : ℤ) → room a <ℤ y
    → fill_cost (a ∷ rest) y ≡ (a.cost *ℤ room a) +ℤ fill_cost rest (y -ℤ room a)
fill_high a rest y h = grind (arith, ints)

pub fill_zero : (arcs : List CostArc) → AreOrdered arcs → fill_cost arcs (pos 0) ≡ pos 0
fill_zero [] o = refl
fill_zero (a ∷ rest) o = omega (arith, ints, fill_low a rest (pos 0) (omega (arith, ints)))

pub room_some : (arcs : List CostArc) → AreOrdered arcs → pos 0 ≤ℤ free_room arcs
room_some [] o = ≤ℤ_refl _
room_some (a ∷ rest) o = omega (arith, ints, room_some rest o.2)

-- units of an arc cost at least as much at its cost as at a lower cost
dearer : (c p u w : ℤ) → pos 0 ≤ℤ w → w ≤ℤ u → (pos 0 <ℤ u → c ≤ℤ p) → (c *ℤ w) ≤ℤ (p *ℤ w)
dearer c p u w h g f =
    by_lt_z (pos 0) u
    (λ lt. mul_mono c p w (f lt) h)
    (λ le.
    let none : w ≡ pos 0 = omega (arith, ints) in
    omega (arith, ints, ap (λ z. p *ℤ z) none, ap (λ z. c *ℤ z) none))

both_over : (fz fzd k f1 f2 f3 cd : ℤ) → fzd ≡ k +ℤ f2 → fz ≡ k +ℤ f1 → (f1 +ℤ cd) ≤ℤ f3 → f3 ≡ f2 → (fz +ℤ cd) ≤ℤ fzd
both_over fz fzd k f1 f2 f3 cd h1 h2 h3 h4 = omega (arith, ints)

one_over : (p c u z d fz fzd f0 f2 f3 : ℤ) → fzd ≡ (p *ℤ u) +ℤ f2 → fz ≡ p *ℤ z → (f0 +ℤ (c *ℤ ((z +ℤ d) -ℤ u))) ≤ℤ f3
    → f0 ≡ pos 0 → f3 ≡ f2 → (c *ℤ (u -ℤ z)) ≤ℤ (p *ℤ (u -ℤ z)) → (fz +ℤ (c *ℤ d)) ≤ℤ fzd
one_over p c u z d fz fzd f0 f2 f3 h1 h2 h3 h4 h5 h6 =
    let g1 = mul_sub c (z +ℤ d) u in
    let g2 = mul_add c z d in
    omega (arith, ints, mul_sub p u z, mul_sub c u z)

none_over : (p c z d fz fzd : ℤ) → fzd ≡ p *ℤ (z +ℤ d) → fz ≡ p *ℤ z → (c *ℤ d) ≤ℤ (p *ℤ d) → (fz +ℤ (c *ℤ d)) ≤ℤ fzd
none_over p c z d fz fzd h1 h2 h3 = omega (arith, ints, mul_add p z d)

-- each additional unit costs at least c
slope : (arcs : List CostArc) (c z d : ℤ) → AreOrdered arcs → NoneCheaper c arcs → pos 0 ≤ℤ z → pos 0 ≤ℤ d
    → (z +ℤ d) ≤ℤ free_room arcs → (fill_cost arcs z +ℤ (c *ℤ d)) ≤ℤ fill_cost arcs (z +ℤ d)
slope [] c z d o h p q r =
    let e : d ≡ pos 0 = omega (arith, ints) in
    omega (arith, ints, ap (λ y. c *ℤ y) e)
slope (a ∷ rest) c z d o h p q r =
    by_lt_z (room a) (z +ℤ d)
    (λ past.
    let whole = fill_high a rest (z +ℤ d) past in
    by_lt_z (room a) z
    (λ over.
    let part = fill_high a rest z over in
    let i = slope rest c (z -ℤ room a) d o.2 h.1 (omega (arith, ints)) q (omega (arith, ints)) in
    let e = ap (fill_cost rest) (let e : (z -ℤ room a) +ℤ d ≡ (z +ℤ d) -ℤ room a = omega (arith, ints) in e) in
    both_over _ _ (a.cost *ℤ room a) _ _ _ (c *ℤ d) whole part i e)
    (λ under.
    let part = fill_low a rest z under in
    let i = slope rest c (pos 0) ((z +ℤ d) -ℤ room a) o.2 h.1 (≤ℤ_refl _) (omega (arith, ints)) (omega (arith, ints)) in
    let none = fill_zero rest o.2 in
    let e =
    ap (fill_cost rest) (let e : pos 0 +ℤ ((z +ℤ d) -ℤ room a) ≡ (z +ℤ d) -ℤ room a = omega (arith, ints) in e) in
    let m = dearer c a.cost (room a) (room a -ℤ z) (omega (arith, ints)) (omega (arith, ints)) h.0 in
    one_over a.cost c (room a) z d _ _ _ _ _ whole part i none e m))
    (λ within.
    let under : z ≤ℤ room a = omega (arith, ints) in
    let whole = fill_low a rest (z +ℤ d) within in
    let part = fill_low a rest z under in
    let m = dearer c a.cost (room a) d q (omega (arith, ints)) h.0 in
    none_over a.cost c z d _ _ whole part m)

-- each additional unit costs at least c, if free capacity precedes the arcs or no unit is added
slope_after : (arcs : List CostArc) (c u z d : ℤ) → AreOrdered arcs → (pos 0 <ℤ u → NoneCheaper c arcs) → pos 0 ≤ℤ z
    → pos 0 ≤ℤ d → d ≤ℤ u → (z +ℤ d) ≤ℤ free_room arcs → (fill_cost arcs z +ℤ (c *ℤ d)) ≤ℤ fill_cost arcs (z +ℤ d)
slope_after arcs c u z d o h p q l r =
    by_lt_z (pos 0) u
    (λ lt. slope arcs c z d o (h lt) p q r)
    (λ le.
    let none : d ≡ pos 0 = omega (arith, ints) in
    let e = ap (λ y. c *ℤ y) none in
    let f = ap (fill_cost arcs) (let f : z +ℤ d ≡ z = omega (arith, ints) in f) in
    omega (arith, ints))

past_cost : (p low u t f fx f1 f2 f3 spent k : ℤ) → fx ≡ (p *ℤ u) +ℤ f1 → (f1 +ℤ (p *ℤ (u -ℤ t))) ≤ℤ f2 → f2 ≡ f3
    → (f +ℤ f3) ≤ℤ spent → ((p *ℤ (low +ℤ t)) +ℤ spent) ≤ℤ k → (((p *ℤ low) +ℤ f) +ℤ fx) ≤ℤ k
past_cost p low u t f fx f1 f2 f3 spent k h1 h2 h3 h4 h5 = omega (arith, ints, mul_add p low t, mul_sub p u t)

within_cost : (p low z t y f fx f0 f2 f3 spent k : ℤ) → fx ≡ p *ℤ z → z ≡ t +ℤ y → (f0 +ℤ (p *ℤ y)) ≤ℤ f2 → f0 ≡ pos 0
    → f2 ≡ f3 → (f +ℤ f3) ≤ℤ spent → ((p *ℤ (low +ℤ t)) +ℤ spent) ≤ℤ k → (((p *ℤ low) +ℤ f) +ℤ fx) ≤ℤ k
within_cost p low z t y f fx f0 f2 f3 spent k h1 h2 h3 h4 h5 h6 h7 =
    let g = mul_add p t y in
    omega (arith, ints, ap (λ w. p *ℤ w) h2, mul_add p low t)

-- filling the arcs with the amount x costs at most k
pub record IsUnder (arcs : List CostArc) (x k : ℤ) : Type 0 where
  pub low : forced_units arcs ≤ℤ x
  pub high : (x -ℤ forced_units arcs) ≤ℤ free_room arcs
  pub cost : (forced_cost arcs +ℤ fill_cost arcs (x -ℤ forced_units arcs)) ≤ℤ k

-- no split costs less than filling the arcs
pub filled : (arcs : List CostArc) (x k : ℤ) → AreOrdered arcs → AtMost arcs x k → IsUnder arcs x k
filled [] x k o s = let w = s.within in
    record { low = omega (arith, ints); high = omega (arith, ints); cost = omega (arith, ints) }
filled (a ∷ rest) x k o s =
    let i = filled rest s.other s.spent o.2 s.rest in
    let z = x -ℤ (a.low +ℤ forced_units rest) in
    let t = s.share -ℤ a.low in
    let y = s.other -ℤ forced_units rest in
    let w : ((a.cost *ℤ (a.low +ℤ t)) +ℤ s.spent) ≤ℤ k =
    rw (let v : s.share ≡ a.low +ℤ (s.share -ℤ a.low) = omega (arith, ints) in v) at s.within in
    record {
      low = omega (arith, ints);
      high = omega (arith, ints);
      cost = by_lt_z (room a) z
          (λ past.
          let whole = fill_high a rest z past in
          let j =
          slope_after rest a.cost (room a) (z -ℤ room a) (room a -ℤ t) o.2 o.1 (omega (arith, ints))
          (omega (arith, ints)) (omega (arith, ints)) (omega (arith, ints)) in
          let same = ap (fill_cost rest) (let g : (z -ℤ room a) +ℤ (room a -ℤ t) ≡ y = omega (arith, ints) in g) in
          past_cost a.cost a.low (room a) t (forced_cost rest) _ _ _ _ s.spent k whole j same i.cost w)
          (λ within.
          let whole = fill_low a rest z within in
          let j =
          slope_after rest a.cost (room a) (pos 0) y o.2 o.1 (≤ℤ_refl _) (omega (arith, ints)) (omega (arith, ints))
          (omega (arith, ints)) in
          let none = fill_zero rest o.2 in
          let same = ap (fill_cost rest) (let g : pos 0 +ℤ y ≡ y = omega (arith, ints) in g) in
          within_cost a.cost a.low z t y (forced_cost rest) _ _ _ _ s.spent k whole
          (let g : z ≡ t +ℤ y = omega (arith, ints) in g) j none same i.cost w);
    }

past_reach : (p low cap f fx f1 : ℤ) → fx ≡ (p *ℤ (cap -ℤ low)) +ℤ f1
    → ((p *ℤ cap) +ℤ (f +ℤ f1)) ≤ℤ (((p *ℤ low) +ℤ f) +ℤ fx)
past_reach p low cap f fx f1 h = omega (arith, ints, mul_sub p cap low)

within_reach : (p low z f fx f0 : ℤ) → fx ≡ p *ℤ z → f0 ≡ pos 0
    → ((p *ℤ (low +ℤ z)) +ℤ (f +ℤ f0)) ≤ℤ (((p *ℤ low) +ℤ f) +ℤ fx)
within_reach p low z f fx f0 h g = omega (arith, ints, mul_add p low z)

-- filling the arcs is a split
pub reach : (arcs : List CostArc) (z : ℤ) → AreOrdered arcs → pos 0 ≤ℤ z → z ≤ℤ free_room arcs
    → AtMost arcs (forced_units arcs +ℤ z) (forced_cost arcs +ℤ fill_cost arcs z)
reach [] z o l u = record { amount = omega (arith, ints); within = ≤ℤ_refl _ }
reach (a ∷ rest) z o l u =
    by_lt_z (room a) z
    (λ past. record {
      share = a.cap;
      other = forced_units rest +ℤ (z -ℤ room a);
      spent = forced_cost rest +ℤ fill_cost rest (z -ℤ room a);
      low_is = o.0.room;
      cap_is = ≤ℤ_refl _;
      amount = omega (arith, ints);
      within = past_reach a.cost a.low a.cap (forced_cost rest) _ _ (fill_high a rest z past);
      rest = reach rest (z -ℤ room a) o.2 (omega (arith, ints)) (omega (arith, ints));
    })
    (λ within. record {
      share = a.low +ℤ z;
      other = forced_units rest +ℤ pos 0;
      spent = forced_cost rest +ℤ fill_cost rest (pos 0);
      low_is = omega (arith, ints);
      cap_is = omega (arith, ints);
      amount = omega (arith, ints);
      within = within_reach a.cost a.low z (forced_cost rest) _ _ (fill_low a rest z within) (fill_zero rest o.2);
      rest = reach rest (pos 0) o.2 (≤ℤ_refl _) (room_some rest o.2);
    })

reach_at : (arcs : List CostArc) (x : ℤ) → AreOrdered arcs → forced_units arcs ≤ℤ x
    → (x -ℤ forced_units arcs) ≤ℤ free_room arcs
    → AtMost arcs x (forced_cost arcs +ℤ fill_cost arcs (x -ℤ forced_units arcs))
reach_at arcs x o l u =
    subst (λ z. AtMost arcs z (forced_cost arcs +ℤ fill_cost arcs (x -ℤ forced_units arcs)))
    (let e : forced_units arcs +ℤ (x -ℤ forced_units arcs) ≡ x = omega (arith, ints) in e)
    (reach arcs (x -ℤ forced_units arcs) o (omega (arith, ints)) u)

-- a least cost is the cost of filling the arcs
pub filling_of_least : (arcs : List CostArc) (x k : ℤ) → AreOrdered arcs → LeastCost arcs x k → IsFilling arcs x k
filling_of_least arcs x k o l =
    let b = least_bottom arcs x k l in
    let i = filled arcs x k o b.at in
    record { low = i.low; high = i.high; cost = antisym _ _ (b.least _ (reach_at arcs x o i.low i.high)) i.cost }

-- the cost of filling the arcs is the least
pub least_of_filling : (arcs : List CostArc) (x k : ℤ) → AreOrdered arcs → IsFilling arcs x k → LeastCost arcs x k
least_of_filling arcs x k o f =
    rw f.cost (bottom_least arcs x _ (record {
      at = reach_at arcs x o f.low f.high;
      least = λ j r. (filled arcs x j o r).cost;
    }))

pub exchange : (arcs : List CostArc) (x k : ℤ) → AreOrdered arcs → LeastCost arcs x k ↔ IsFilling arcs x k
exchange arcs x k o = (filling_of_least arcs x k o, least_of_filling arcs x k o)
