-- Breakpoints in a map, with the first one outside it: insertions, ranges and look-ups of the map are those of
-- breakpoints, and capacities that the code adds fit.
use Rattle.std.proofs.Common.{inl, inr, ◌≡◌, ◌-◌, ◌^◌, ℤ, pos, ◌+ℤ◌, ◌≤ℤ◌, ◌<ℤ◌, Bool, true, false, ◌&&◌, not, List, [], ◌∷◌, Some, None, refl, sym, ap, ◌∙◌, arith, to_z, of_z, Result, Ok, Err, OnErr, OnOk, w64, FitsSigned, int_lt, unwrap_or, is_some}
use Rattle.std.specs.List.{AllByRecursion, filter, slice_get}
use Rattle.std.specs.List.Sorted.{IsStrictlySortedBy}
use Rattle.std.specs.Ordering.{int_cmp, is_lt}
use Rattle.std.specs.Map.{lookup, keys_of}
use Rattle.std.specs.BTreeMap.{is_at, insert_entry}
use Rattle.std.specs.Cmp.{int_cmp_total}
use Rattle.std.proofs.lemmas.Int.{ints, to_z-of_z}
use Rattle.std.proofs.lemmas.Bool.{cases_Bool}
use Rattle.std.proofs.lemmas.Map.{lookup-none}
use Rattle.std.proofs.lemmas.Map.Entries.{none_below_head}
use Rattle.std.proofs.lemmas.Map.Keys.{sorted_tail}
use Rattle.dn_arc_theory.proofs.StepArcsLaws.{steps_some}
use Rattle.dn_arc_theory.proofs.MeansLaws.{fits_some, fits_next}
use Rattle.dn_arc_theory.proofs.CanonsLaws.{by_cmp}
use Rattle.dn_arc_theory.proofs.PartsLaws.{test_yes, test_no}
use Rattle.dn_arc_theory.specs.State.Steps.{put_step, step_past, has_step, AreSteps, steps_room}

-- adding a breakpoint, by the result of a comparison
module _ (step more : ℤ × ℤ) (rest : List (ℤ × ℤ)) where
  pub put_before : more.0 <ℤ step.0 → put_step (step ∷ rest) more ≡ more ∷ step ∷ rest
  put_before h = simp test_yes

  pub put_past : step.0 <ℤ more.0 → put_step (step ∷ rest) more ≡ step ∷ put_step rest more
  put_past h = let le : step.0 ≤ℤ more.0 = omega (arith, ints) in simp (test_no, test_yes)

  pub put_at : more.0 ≡ step.0 → put_step (step ∷ rest) more ≡ (step.0, step.1 +ℤ more.1) ∷ rest
  put_at h =
      let le : step.0 ≤ℤ more.0 = omega (arith, ints) in
      let ge : more.0 ≤ℤ step.0 = omega (arith, ints) in
      simp test_no

-- the capacity that a map has at a cost
abbrev held : List (ℤ × ℤ) → ℤ → ℤ
held es cost = unwrap_or (lookup (is_at (int_cmp cost)) es) (pos 0)

-- adding capacity to a map is one insertion
pub put_is : (es : List (ℤ × ℤ)) (more : ℤ × ℤ) → IsStrictlySortedBy int_cmp (keys_of es)
    → insert_entry int_cmp es more.0 (held es more.0 +ℤ more.1) ≡ put_step es more
put_is [] more s = let e : pos 0 +ℤ more.1 ≡ more.1 = omega (arith, ints) in rw e
put_is (step ∷ rest) more s =
    by_cmp more.0 step.0
    (λ c lt.
    let none =
    lookup-none (is_at (int_cmp more.0)) (step ∷ rest) (none_below_head int_cmp_total more.0 step rest s c) in
    let sum : pos 0 +ℤ more.1 ≡ more.1 = omega (arith, ints) in
    rw (put_before step more rest lt, none, c, sum))
    (λ c eq. rw (put_at step more rest eq, c))
    (λ c gt. rw (put_past step more rest gt, c, put_is rest more (sorted_tail int_cmp step.0 (keys_of rest) s)))

-- a cost below all others is inserted at the beginning
pub insert_front : (es : List (ℤ × ℤ)) (cost room : ℤ) → AllByRecursion (λ (other : ℤ × ℤ). cost <ℤ other.0) es
    → insert_entry int_cmp es cost room ≡ (cost, room) ∷ es
insert_front [] cost room h = refl
insert_front (step ∷ rest) cost room h =
    by_cmp cost step.0 (λ c lt. rw c) (λ c eq. absurd (omega (arith, ints))) (λ c gt. absurd (omega (arith, ints)))

-- whether a range that excludes its start has the key
abbrev in_range : ℤ → ℤ → Bool
in_range cost key = is_lt (int_cmp cost key) && not false

in_range_is : (a b : ℤ) → int_lt a b ≡ in_range a b
in_range_is a b =
    by_cmp a b (λ c lt. rw (c, test_yes a b lt)) (λ c eq. rw (c, test_no a b (omega (arith, ints))))
    (λ c gt. rw (c, test_no a b (omega (arith, ints))))

first_in_range : (es : List (ℤ × ℤ)) (cost : ℤ)
    → step_past es cost ≡ slice_get (filter (λ (e : ℤ × ℤ). in_range cost e.0) es) 0
first_in_range [] cost = refl
first_in_range (e ∷ es) cost = elim (cases_Bool (int_lt cost e.0)) [
  | inl t ↦ rw (sym (in_range_is cost e.0) ∙ t, t)
  | inr t ↦ rw (sym (in_range_is cost e.0) ∙ t, t) (first_in_range es cost)
]

module _ (es found : List (ℤ × ℤ)) (cost : ℤ) (fits : FitsSigned w64 cost)
    (is : found ≡ filter (λ (e : ℤ × ℤ). in_range (to_z w64 (of_z w64 cost)) e.0) es) where
  here : step_past es cost ≡ slice_get found 0
  here = rw is (simp to_z-of_z (first_in_range es cost))

  -- the first entry of a range is the first breakpoint above its start
  pub first_past : (left : List (ℤ × ℤ)) (step : ℤ × ℤ) → FitsSigned w64 step.0 → FitsSigned w64 step.1
      → found ≡ step ∷ left → Some (to_z w64 (of_z w64 step.0), to_z w64 (of_z w64 step.1)) ≡ step_past es cost
  first_past left step f g h = rw (here, h, to_z-of_z w64 step.0 f, to_z-of_z w64 step.1 g)

  pub none_past : found ≡ [] → None ≡ step_past es cost
  none_past h = rw (here, h)

-- a map has a breakpoint exactly if a look-up finds it
pub has_is : (es : List (ℤ × ℤ)) (cost : ℤ) → is_some (lookup (is_at (int_cmp cost)) es) ≡ has_step es cost
has_is [] cost = refl
has_is (step ∷ rest) cost =
    elim (cases_Bool (is_at (int_cmp cost) step.0)) [ inl t ↦ rw t | inr t ↦ rw t (has_is rest cost) ]

-- a map without this key has no capacity at this cost
pub lacks : (es : List (ℤ × ℤ)) (cost : ℤ) → FitsSigned w64 cost
    → lookup (is_at (int_cmp (to_z w64 (of_z w64 cost)))) es ≡ None → has_step es cost ≡ false
lacks es cost f e = sym (has_is es cost) ∙ ap is_some (simp to_z-of_z at e)

pub ok_so : {A E P Q : Type 0} (r : Result A E) → (P → Q) → OnOk r P → OnOk r Q
ok_so (Ok x) f h = f h
ok_so (Err e) f h = tt

pub err_so : {A E P Q : Type 0} (r : Result A E) → (P → Q) → OnErr r P → OnErr r Q
err_so (Ok x) f h = tt
err_so (Err e) f h = f h

pub on_err : {A E P : Type 0} (r : Result A E) → P → OnErr r P
on_err (Ok x) h = tt
on_err (Err e) h = h

-- the capacity at a cost is at most the total
pub held_most : (es : List (ℤ × ℤ)) (cost : ℤ) → AreSteps es → (pos 0 ≤ℤ held es cost) × (held es cost ≤ℤ steps_room es)
held_most [] cost s = (omega (arith, ints), omega (arith, ints))
held_most (step ∷ rest) cost s =
    let left = steps_some rest s.2 in
    let i = held_most rest cost s.2 in
    elim (cases_Bool (is_at (int_cmp cost) step.0)) [
      | inl t ↦ rw t (omega (arith, ints), omega (arith, ints))
      | inr t ↦ rw t (i.0, omega (arith, ints))
    ]

-- the capacity at a cost fits 64 bits, and so does its sum with the added capacity
held_fits : (es : List (ℤ × ℤ)) (more : ℤ × ℤ) (now : ℤ) → pos 0 ≤ℤ more.1 → AreSteps es
    → (steps_room es +ℤ more.1) ≤ℤ pos (2 ^ 63 - 1) → now ≡ held es more.0 → FitsSigned w64 now
    × FitsSigned w64 (now +ℤ more.1)
held_fits es more now h s f e =
    let m = held_most es more.0 s in (
      fits_some now (omega (arith, ints)) (omega (arith, ints)),
      fits_some (now +ℤ more.1) (omega (arith, ints))
          (omega (arith, ints)),
    )

-- the sum of the capacity at a cost and the added capacity, as the code computes it
pub sum_fits : (es : List (ℤ × ℤ)) (more : ℤ × ℤ) (now : ℤ) → pos 0 ≤ℤ more.1 → AreSteps es
    → (steps_room es +ℤ more.1) ≤ℤ pos (2 ^ 63 - 1) → now ≡ held es more.0 → FitsSigned w64 more.1
    → FitsSigned w64 (to_z w64 (of_z w64 now) +ℤ to_z w64 (of_z w64 more.1))
sum_fits es more now h s f e g = let b = held_fits es more now h s f e in let b0 = b.0 in simp to_z-of_z b.1

pub sum_is : (es : List (ℤ × ℤ)) (more : ℤ × ℤ) (now : ℤ) (new : List (ℤ × ℤ)) → pos 0 ≤ℤ more.1 → AreSteps es
    → (steps_room es +ℤ more.1) ≤ℤ pos (2 ^ 63 - 1) → now ≡ held es more.0 → FitsSigned w64 more.0
    → FitsSigned w64 more.1 → IsStrictlySortedBy int_cmp (keys_of es)
    → new ≡ insert_entry int_cmp es (to_z w64 (of_z w64 more.0))
    (to_z w64 (of_z w64 (to_z w64 (of_z w64 now) +ℤ to_z w64 (of_z w64 more.1)))) → new ≡ put_step es more
sum_is es more now new h s f e g0 g o i =
    let b = held_fits es more now h s f e in
    let b0 = b.0 in
    let b1 = b.1 in
    i ∙ simp to_z-of_z (rw e (put_is es more o))

-- a number plus one, as the code computes it
pub next_fits : (x : ℤ) → FitsSigned w64 x → x <ℤ pos (2 ^ 63 - 1) → FitsSigned w64 (to_z w64 (of_z w64 x) +ℤ pos 1)
next_fits x f h = simp to_z-of_z (fits_next x f h)

pub next_is : (x : ℤ) → FitsSigned w64 x → x <ℤ pos (2 ^ 63 - 1)
    → to_z w64 (of_z w64 (to_z w64 (of_z w64 x) +ℤ pos 1)) ≡ x +ℤ pos 1
next_is x f h = let g = fits_next x f h in simp to_z-of_z

-- what a comparison of two numbers in the code shows
pub less : (x y : ℤ) → FitsSigned w64 x → FitsSigned w64 y
    → int_lt (to_z w64 (of_z w64 x)) (to_z w64 (of_z w64 y)) ≡ true → x <ℤ y
less x y f g h = let e : int_lt x y ≡ true = simp to_z-of_z at h in grind (arith, ints)

pub not_less : (x y : ℤ) → FitsSigned w64 x → FitsSigned w64 y
    → int_lt (to_z w64 (of_z w64 x)) (to_z w64 (of_z w64 y)) ≡ false → y ≤ℤ x
not_less x y f g h = let e : int_lt x y ≡ false = simp to_z-of_z at h in grind (arith, ints)

pub not_apart : (x y : ℤ) → FitsSigned w64 x → FitsSigned w64 y
    → int_lt (to_z w64 (of_z w64 x)) (to_z w64 (of_z w64 y)) ≡ false
    → int_lt (to_z w64 (of_z w64 y)) (to_z w64 (of_z w64 x)) ≡ false → x ≡ y
not_apart x y f g h k = omega (arith, ints, not_less y x g f k, not_less x y f g h)
