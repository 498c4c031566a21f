-- The meaning determines canonical arcs of form 2, and so of either form. The least costs of either form are those of
-- filling its arcs in their order.
use Rattle.std.proofs.Common.{◌≡◌, ℤ, pos, ◌+ℤ◌, ◌≤ℤ◌, ◌<ℤ◌, ◌↔◌, List, [], ◌∷◌, cond, int_lt, refl, sym, ap, subst, arith, ◌∙◌, inl, inr}
use Rattle.std.proofs.lemmas.Bool.{cases_Bool}
use Rattle.std.proofs.lemmas.Int.{ints, by_lt_z}
use Rattle.std.specs.Int.Signed.{≤ℤ_refl}
use Rattle.std.specs.List.{AllByRecursion}
use Rattle.dn_arc_theory.specs.declared.arc.CostArc.{CostArc}
use Rattle.dn_arc_theory.specs.declared.arc.Form.{Form}
use Rattle.dn_arc_theory.specs.declared.arc.Form.TheVariants.{One, Two}
use Rattle.dn_arc_theory.specs.Splits.{LeastCost}
use Rattle.dn_arc_theory.specs.Meanings.{SameCurve}
use Rattle.dn_arc_theory.specs.Canonical.{IsMixedArc, AreAscending, IsFormTwo, AreCanonCosts}
use Rattle.dn_arc_theory.specs.State.FillCosts.{room, IsFilling}
use Rattle.dn_arc_theory.proofs.FillsLaws.{AreOrdered, exchange}
use Rattle.dn_arc_theory.proofs.FormsLaws.{AreAbove, above_lower, form_one_ordered, form_two_ordered}
use Rattle.dn_arc_theory.proofs.FormOneLaws.{arc_same, cancel, same_fill, same_free, fixed_same, free_same, determination_one}
use Rattle.dn_arc_theory.proofs.PartsLaws.{test_yes, test_no, free_part, fixed_parts, free_parts, parts_fixed, parts_free, apart_parts}

-- a number if it belongs to this cost, and 0 otherwise
abbrev at : ℤ → ℤ → ℤ → ℤ
at c cost v = cond (int_lt c cost) (pos 0) (cond (int_lt cost c) (pos 0) v)

at_same : (c v : ℤ) → at c c v ≡ v
at_same c v = let same : c ≤ℤ c = ≤ℤ_refl c in simp test_no

at_other : (c cost v : ℤ) → c <ℤ cost → at c cost v ≡ pos 0
at_other c cost v h = simp test_yes

at_none : (c cost : ℤ) → at c cost (pos 0) ≡ pos 0
at_none c cost =
    by_lt_z c cost (λ lt. simp test_yes)
    (λ le. simp test_no (elim (cases_Bool (int_lt cost c)) [ inl t ↦ rw t | inr t ↦ rw t ]))

-- the LOWs at a cost, and the free capacities at a cost
abbrev lows_at : ℤ → List CostArc → ℤ
lows_at c [] = pos 0
lows_at c (a ∷ rest) = at c a.cost a.low +ℤ lows_at c rest

abbrev rooms_at : ℤ → List CostArc → ℤ
rooms_at c [] = pos 0
rooms_at c (a ∷ rest) = at c a.cost (room a) +ℤ rooms_at c rest

none_above : (c : ℤ) (xs : List CostArc) → AreAbove c xs → (rooms_at c xs ≡ pos 0) × (lows_at c xs ≡ pos 0)
none_above c [] h = (refl, refl)
none_above c (a ∷ rest) h =
    let i = none_above c rest h.1 in
    let e0 = at_other c a.cost (room a) h.0 in
    let e1 = at_other c a.cost a.low h.0 in
    (omega (arith, ints), omega (arith, ints))

nothing_at : (c cost v : ℤ) → v ≡ pos 0 → at c cost v ≡ pos 0
nothing_at c cost v e = rw e (at_none c cost)

lows_parts : (c : ℤ) (xs : List CostArc) → AllByRecursion IsMixedArc xs → lows_at c (fixed_parts xs) ≡ lows_at c xs
lows_parts c [] m = refl
lows_parts c (a ∷ rest) m =
    let i = lows_parts c rest m.1 in
    by_lt_z (pos 0) a.low (λ lt. simp (test_yes, i))
    (λ le. simp test_no (omega (arith, ints, nothing_at c a.cost a.low (omega (arith, ints)))))

rooms_parts : (c : ℤ) (xs : List CostArc) → AllByRecursion IsMixedArc xs → rooms_at c (free_parts xs) ≡ rooms_at c xs
rooms_parts c [] m = refl
rooms_parts c (a ∷ rest) m =
    let i = rooms_parts c rest m.1 in
    let same : room (free_part a) ≡ room a = omega (arith, ints) in
    by_lt_z a.low a.cap (λ lt. simp (test_yes, i, same))
    (λ le. simp test_no (omega (arith, ints, nothing_at c a.cost (room a) (omega (arith, ints)))))

-- two lists have the same LOWs and free capacities at every cost
record IsSameAt (xs ys : List CostArc) : Type 0 where
  rooms : (c : ℤ) → rooms_at c xs ≡ rooms_at c ys
  lows : (c : ℤ) → lows_at c xs ≡ lows_at c ys

flip : (xs ys : List CostArc) → IsSameAt xs ys → IsSameAt ys xs
flip xs ys s = record { rooms = λ c. sym (s.rooms c); lows = λ c. sym (s.lows c) }

head_rooms : (a : CostArc) (rest : List CostArc) → AreAbove a.cost rest → rooms_at a.cost (a ∷ rest) ≡ room a
head_rooms a rest h = omega (arith, ints, (none_above a.cost rest h).0, at_same a.cost (room a))

head_lows : (a : CostArc) (rest : List CostArc) → AreAbove a.cost rest → lows_at a.cost (a ∷ rest) ≡ a.low
head_lows a rest h = omega (arith, ints, (none_above a.cost rest h).1, at_same a.cost a.low)

-- the cost of the first arc occurs in the other list
not_missing : (a : CostArc) (xs ys : List CostArc) → IsMixedArc a → AreAbove a.cost xs → AreAbove a.cost ys
    → IsSameAt (a ∷ xs) ys → ⊥
not_missing a xs ys m r h s =
    let n = none_above a.cost ys h in
    let e = sym (head_rooms a xs r) ∙ s.rooms a.cost ∙ n.0 in
    let f = sym (head_lows a xs r) ∙ s.lows a.cost ∙ n.1 in
    absurd (omega (arith, ints))

tails : (a : CostArc) (xs ys : List CostArc) → IsSameAt (a ∷ xs) (a ∷ ys) → IsSameAt xs ys
tails a xs ys s = record { rooms = λ c. cancel _ _ _ (s.rooms c); lows = λ c. cancel _ _ _ (s.lows c) }

cap_by : (a b : CostArc) → a.low ≡ b.low → room a ≡ room b → a.cap ≡ b.cap
cap_by a b e f = omega (arith, ints)

mixed_same : (xs ys : List CostArc) → AllByRecursion IsMixedArc xs → AllByRecursion IsMixedArc ys → AreAscending xs
    → AreAscending ys → IsSameAt xs ys → xs ≡ ys
mixed_same [] [] m n r t s = refl
mixed_same [] (b ∷ ys) m n r t s = absurd (not_missing b ys [] n.0 t.0 tt (flip [] (b ∷ ys) s))
mixed_same (a ∷ xs) [] m n r t s = absurd (not_missing a xs [] m.0 r.0 tt s)
mixed_same (a ∷ xs) (b ∷ ys) m n r t s =
    let cost : a.cost ≡ b.cost =
    by_lt_z a.cost b.cost (λ lt. absurd (not_missing a xs (b ∷ ys) m.0 r.0 (lt, above_lower a.cost b.cost ys lt t.0) s))
    (λ le. by_lt_z b.cost a.cost
    (λ lt. absurd (not_missing b ys (a ∷ xs) n.0 t.0 (lt, above_lower b.cost a.cost xs lt r.0) (flip _ _ s)))
    (λ ge. omega (arith, ints))) in
    let rooms = sym (head_rooms a xs r.0) ∙ s.rooms a.cost ∙ ap (λ c. rooms_at c (b ∷ ys)) cost ∙ head_rooms b ys t.0 in
    let lows = sym (head_lows a xs r.0) ∙ s.lows a.cost ∙ ap (λ c. lows_at c (b ∷ ys)) cost ∙ head_lows b ys t.0 in
    let e = arc_same a b lows (cap_by a b lows rooms) cost in
    rw (← e, mixed_same xs ys m.1 n.1 r.1 t.1 (tails a xs ys (subst (λ x. IsSameAt (a ∷ xs) (x ∷ ys)) (sym e) s)))

-- two lists of form 2 that mean the same are equal
pub determination_two : (xs ys : List CostArc) → IsFormTwo xs → IsFormTwo ys → SameCurve xs ys → xs ≡ ys
determination_two xs ys p q s =
    let o = form_two_ordered xs p in
    let o' = form_two_ordered ys q in
    let t = same_fill xs ys o o' s in
    let a = apart_parts xs o in
    let b = apart_parts ys o' in
    let u = sym a.units ∙ t.units ∙ b.units in
    let e = fixed_same _ _ (parts_fixed xs p.near) (parts_fixed ys q.near) u (sym a.cost ∙ t.cost ∙ b.cost) in
    let f = free_same _ _ (parts_free xs p.ascending) (parts_free ys q.ascending) (same_free a b t) in
    mixed_same xs ys p.each q.each p.ascending q.ascending (record {
      rooms = λ c. sym (rooms_parts c xs p.each) ∙ ap (rooms_at c) f ∙ rooms_parts c ys q.each;
      lows = λ c. sym (lows_parts c xs p.each) ∙ ap (lows_at c) e ∙ lows_parts c ys q.each;
    })

-- two lists of one form that mean the same are equal
pub determination_of_forms : (form : Form) (xs ys : List CostArc) → AreCanonCosts form xs → AreCanonCosts form ys
    → SameCurve xs ys → xs ≡ ys
determination_of_forms One xs ys p q s = determination_one xs ys p q s
determination_of_forms Two xs ys p q s = determination_two xs ys p q s

form_ordered : (form : Form) (arcs : List CostArc) → AreCanonCosts form arcs → AreOrdered arcs
form_ordered One arcs f = form_one_ordered arcs f
form_ordered Two arcs f = form_two_ordered arcs f

-- the least costs of arcs of either form are those of filling them in their order
pub exchange_of_forms : (form : Form) (arcs : List CostArc) → AreCanonCosts form arcs → (x k : ℤ)
    → LeastCost arcs x k ↔ IsFilling arcs x k
exchange_of_forms form arcs f x k = exchange arcs x k (form_ordered form arcs f)
