-- A breakpoint put among a few ones, and a few ones before those of a map.
use Rattle.std.proofs.Common.{inl, inr, ◌≡◌, ℕ, zero, suc, ◌+◌, ◌<◌, ◌≤◌, ℤ, pos, ◌+ℤ◌, ◌≤ℤ◌, ◌<ℤ◌, true, false, List, [], ◌∷◌, ◌++◌, Option, Some, None, length, slice_get, slice_set, refl, sym, arith, append_assoc, int_lt, int_cmp, option_to_list, length-append, w64, FitsSigned, to_z, of_z, ◌-◌, ◌^◌}
use Rattle.std.specs.List.{AllByRecursion, insert, refill}
use Rattle.std.specs.BTreeMap.{insert_entry}
use Rattle.std.proofs.lemmas.Bool.{cases_Bool}
use Rattle.std.proofs.lemmas.Int.{ints, to_z-of_z}
use Rattle.std.proofs.lemmas.List.Edits.{insert-append_left}
use Rattle.std.proofs.lemmas.List.{append-nil, length-set, take_at}
use Rattle.dn_arc_theory.proofs.StepArcsLaws.{costs_lower, steps_some}
use Rattle.dn_arc_theory.proofs.MeansLaws.{fits_some}
use Rattle.dn_arc_theory.specs.State.Steps.{put_step, step_past, has_step, AreSteps, steps_room}
use Rattle.dn_arc_theory.proofs.CanonsLaws.{eq_past, none_has}
use Rattle.dn_bundle.specs.State.Spots.{spot, HoldsFew}
use Rattle.dn_bundle.proofs.StepLaws.{put_before, put_past, put_at, insert_front}

-- looking for the first breakpoint above a cost
pub past_both : (xs ys : List (ℤ × ℤ)) (cost : ℤ) (step : ℤ × ℤ) → Some step ≡ step_past xs cost
    → Some step ≡ step_past (xs ++ ys) cost
past_both [] ys cost step h = cc
past_both (x ∷ xs) ys cost step h =
    elim (cases_Bool (int_lt cost x.0)) [
      | inl t ↦ rw t (rw t at h)
      | inr t ↦ rw t (past_both xs ys cost step (rw t at h))
    ]

pub past_rest : (xs ys : List (ℤ × ℤ)) (cost : ℤ) → None ≡ step_past xs cost
    → step_past ys cost ≡ step_past (xs ++ ys) cost
past_rest [] ys cost h = refl
past_rest (x ∷ xs) ys cost h =
    elim (cases_Bool (int_lt cost x.0)) [ inl t ↦ cc (rw t at h) | inr t ↦ rw t (past_rest xs ys cost (rw t at h)) ]

-- all breakpoints in the map are above the last one before them
pub above_last : (xs ys : List (ℤ × ℤ)) (last : ℤ × ℤ) → AreSteps (xs ++ last ∷ ys)
    → AllByRecursion (λ (other : ℤ × ℤ). last.0 <ℤ other.0) ys
above_last [] ys last s = s.1
above_last (x ∷ xs) ys last s = above_last xs ys last s.2

pub steps_rest : (xs ys : List (ℤ × ℤ)) → AreSteps (xs ++ ys) → AreSteps ys
steps_rest [] ys s = s
steps_rest (x ∷ xs) ys s = steps_rest xs ys s.2

-- the last breakpoint moves to the map, and another is inserted
pub moved : (front rest new : List (ℤ × ℤ)) (last step : ℤ × ℤ) (at : ℕ) → at ≤ length front
    → AreSteps ((front ++ last ∷ []) ++ rest) → new ≡ insert_entry int_cmp rest last.0 last.1
    → insert front at step ++ new ≡ insert ((front ++ last ∷ []) ++ rest) at step
moved front rest new last step at h s e =
    let a : (front ++ last ∷ []) ++ rest ≡ front ++ last ∷ rest = append_assoc front (last ∷ []) rest in
    let f = insert_front rest last.0 last.1 (above_last front rest last (rw a at s)) in
    rw (a, e, f) (sym (insert-append_left front (last ∷ rest) at step h))

-- an option holds one element
some_of : {x y : ℤ × ℤ} → Some x ≡ Some y → x ≡ y
some_of e = cc

less_is : (x y : ℤ) → int_lt x y ≡ true → x <ℤ y
less_is x y h = grind (arith, ints)

not_less_is : (x y : ℤ) → int_lt x y ≡ false → y ≤ℤ x
not_less_is x y h = grind (arith, ints)

-- a breakpoint above all the few ones is put into the map
pub put_rest : (xs ys : List (ℤ × ℤ)) (step : ℤ × ℤ) → slice_get xs (spot xs step.0) ≡ None
    → put_step (xs ++ ys) step ≡ xs ++ put_step ys step
put_rest [] ys step h = refl
put_rest (x ∷ xs) ys step h =
    elim (cases_Bool (int_lt x.0 step.0)) [
      | inl e ↦ rw (put_past x step (xs ++ ys) (less_is x.0 step.0 e), put_rest xs ys step (rw e at h))
      | inr e ↦ cc (rw e at h)
    ]

-- a breakpoint at the cost of one of the few is merged with it
pub put_same : (xs ys : List (ℤ × ℤ)) (step held : ℤ × ℤ) → slice_get xs (spot xs step.0) ≡ Some held
    → held.0 ≤ℤ step.0 → put_step (xs ++ ys) step ≡ slice_set xs (spot xs step.0) (held.0, held.1 +ℤ step.1) ++ ys
put_same [] ys step held h s = cc
put_same (x ∷ xs) ys step held h s =
    elim (cases_Bool (int_lt x.0 step.0)) [
      | inl e ↦ rw (put_past x step (xs ++ ys) (less_is x.0 step.0 e), e, put_same xs ys step held (rw e at h) s)
      | inr e ↦
          let is : x ≡ held = some_of (rw e at h) in
          let le = not_less_is x.0 step.0 e in
          let ge : x.0 ≤ℤ step.0 = rw is s in
          rw (← is, put_at x step (xs ++ ys) (omega (arith, ints)), e)
    ]

-- a breakpoint at another cost is inserted before one of the few
pub put_other : (xs ys : List (ℤ × ℤ)) (step held : ℤ × ℤ) → slice_get xs (spot xs step.0) ≡ Some held
    → step.0 <ℤ held.0 → insert (xs ++ ys) (spot xs step.0) step ≡ put_step (xs ++ ys) step
put_other [] ys step held h s = cc
put_other (x ∷ xs) ys step held h s =
    elim (cases_Bool (int_lt x.0 step.0)) [
      | inl e ↦ rw (put_past x step (xs ++ ys) (less_is x.0 step.0 e), e, put_other xs ys step held (rw e at h) s)
      | inr e ↦
          let is : x ≡ held = some_of (rw e at h) in
          rw (put_before x step (xs ++ ys) (rw is s), e)
    ]

-- where a breakpoint is inserted before one of the few, there was no capacity at its cost
pub other_new : (xs ys : List (ℤ × ℤ)) (step held : ℤ × ℤ) → slice_get xs (spot xs step.0) ≡ Some held
    → step.0 <ℤ held.0 → AreSteps (xs ++ ys) → has_step (xs ++ ys) step.0 ≡ false
other_new [] ys step held h lt s = cc
other_new (x ∷ xs) ys step held h lt s =
    elim (cases_Bool (int_lt x.0 step.0)) [
      | inl e ↦ rw (eq_past step.0 x.0 (less_is x.0 step.0 e)) (other_new xs ys step held (rw e at h) lt s.2)
      | inr e ↦
          let is : x ≡ held = some_of (rw e at h) in
          let below : step.0 <ℤ x.0 = rw is lt in
          none_has step.0 (x ∷ xs ++ ys) (below, costs_lower step.0 x.0 (xs ++ ys) below s.1)
    ]

-- where a breakpoint is above all the few ones, there is capacity at its cost only in the map
pub rest_new : (xs ys : List (ℤ × ℤ)) (step : ℤ × ℤ) → slice_get xs (spot xs step.0) ≡ None
    → has_step ys step.0 ≡ false → has_step (xs ++ ys) step.0 ≡ false
rest_new [] ys step h new = new
rest_new (x ∷ xs) ys step h new =
    elim (cases_Bool (int_lt x.0 step.0)) [
      | inl e ↦ rw (eq_past step.0 x.0 (less_is x.0 step.0 e)) (rest_new xs ys step (rw e at h) new)
      | inr e ↦ cc (rw e at h)
    ]

-- the capacity at one of the few costs is at most the total
pub held_room : (xs ys : List (ℤ × ℤ)) (held : ℤ × ℤ) (i : ℕ) → slice_get xs i ≡ Some held → AreSteps (xs ++ ys)
    → (pos 1 ≤ℤ held.1) × (held.1 ≤ℤ steps_room (xs ++ ys))
held_room [] ys held i h s = cc
held_room (x ∷ xs) ys held zero h s =
    let is : held ≡ x = some_of (sym h) in
    let left = steps_some (xs ++ ys) s.2 in
    rw is (s.0, omega (arith, ints))
held_room (x ∷ xs) ys held (suc i) h s =
    let r = held_room xs ys held i h s.2 in
    (r.0, omega (arith, ints))

-- the capacity in the map is at most the total
pub rest_room : (xs ys : List (ℤ × ℤ)) → AreSteps (xs ++ ys) → steps_room ys ≤ℤ steps_room (xs ++ ys)
rest_room [] ys s = omega (arith, ints)
rest_room (x ∷ xs) ys s = omega (arith, ints, rest_room xs ys s.2)

-- a list that replaces another of its length
pub refilled : (xs : List (ℤ × ℤ)) (i : ℕ) (x : ℤ × ℤ)
    → refill (length xs) xs (slice_set xs i x) ≡ slice_set xs i x
refilled xs i x = take_at (slice_set xs i x) _ (length xs) (length-set xs i x)

-- the last of four, which moves to the map
pub moved_last : (few front rest new now : List (ℤ × ℤ)) (popped : Option (ℤ × ℤ)) (last step : ℤ × ℤ) (at : ℕ)
    → length few ≡ 4 → few ≡ front ++ option_to_list popped → popped ≡ slice_get few (length few - 1)
    → slice_get few 3 ≡ Some last → at < 4 → few ++ rest ≡ now → AreSteps now
    → new ≡ insert_entry int_cmp rest last.0 last.1 → insert front at step ++ new ≡ insert now at step
moved_last few front rest new now popped last step at full e p l h v s n =
    let is : popped ≡ Some last = rw (p, full) l in
    let f : few ≡ front ++ last ∷ [] = rw is at e in
    let g : (front ++ last ∷ []) ++ rest ≡ now = rw (← f) v in
    let len : length front + 1 ≡ 4 = rw (f, length-append) at full in
    rw (← g) (moved front rest new last step at (omega arith) (rw g s) n)

-- a few ones that are not full have none after them
pub stays_few : (few rest now : List (ℤ × ℤ)) (step : ℤ × ℤ) (at : ℕ) → HoldsFew few rest → length few < 4
    → few ++ rest ≡ now → insert few at step ++ rest ≡ insert now at step
stays_few few rest now step at h l v =
    let none = h l in
    let is : few ≡ now = rw (none, append-nil) at v in
    rw (none, append-nil, is)

-- a breakpoint that is there is within the list
pub get_below : (xs : List (ℤ × ℤ)) (i : ℕ) (x : ℤ × ℤ) → slice_get xs i ≡ Some x → i < length xs
get_below [] i x h = cc
get_below (y ∷ xs) zero x h = omega arith
get_below (y ∷ xs) (suc i) x h = let l = get_below xs i x h in omega (arith, l)

-- a breakpoint that is there is within the whole list
pub within : (xs ys now : List (ℤ × ℤ)) (i : ℕ) (x : ℤ × ℤ) → xs ++ ys ≡ now → slice_get xs i ≡ Some x → i < length now
within xs ys now i x view h = rw (← view, length-append) (omega (arith, get_below xs i x h))

module _ (xs ys now : List (ℤ × ℤ)) (step : ℤ × ℤ) (at : ℕ) (is : at ≡ spot xs step.0) (view : xs ++ ys ≡ now) where
  pub rest_put : (new : List (ℤ × ℤ)) → slice_get xs at ≡ None → new ≡ put_step ys step → xs ++ new ≡ put_step now step
  rest_put new h e = rw (e, ← view) (sym (put_rest xs ys step (rw is at h)))

  pub rest_lacks : slice_get xs at ≡ None → has_step ys step.0 ≡ false → has_step now step.0 ≡ false
  rest_lacks h new = rw (← view) (rest_new xs ys step (rw is at h) new)

  pub push_put : (few : List (ℤ × ℤ)) → slice_get xs at ≡ None → HoldsFew xs ys → length xs < 4
      → few ≡ xs ++ step ∷ [] → few ++ ys ≡ put_step now step
  push_put few h holds l e =
      let none = holds l in
      rw (e, none, append-nil) (rest_put (step ∷ []) h (rw none))

  module _ (held : ℤ × ℤ) (here : slice_get xs at ≡ Some held) where
    there : slice_get xs (spot xs step.0) ≡ Some held
    there = rw is at here

    pub other_put : (new : List (ℤ × ℤ)) → step.0 <ℤ held.0 → new ≡ insert now at step → new ≡ put_step now step
    other_put new lt e = rw (e, ← view, is) (put_other xs ys step held there lt)

    pub other_lacks : step.0 <ℤ held.0 → AreSteps now → has_step now step.0 ≡ false
    other_lacks lt s = rw (← view) (other_new xs ys step held there lt (rw view s))

    pub merged_put : (few : List (ℤ × ℤ)) (sum : ℤ × ℤ) → held.0 ≤ℤ step.0 → few ≡ xs
        → sum ≡ (held.0, held.1 +ℤ step.1) → refill (length xs) xs (slice_set few at sum) ++ ys ≡ put_step now step
    merged_put few sum le e f =
        rw (e, f, is, refilled xs (spot xs step.0) (held.0, held.1 +ℤ step.1), ← view)
        (sym (put_same xs ys step held there le))

    pub sum_fits_held : pos 1 ≤ℤ step.1 → AreSteps now → (steps_room now +ℤ step.1) ≤ℤ pos (2 ^ 63 - 1)
        → FitsSigned w64 (held.1 +ℤ step.1)
    sum_fits_held some s fits =
        let r = held_room xs ys held at here (rw view s) in
        fits_some (held.1 +ℤ step.1) (omega (arith, ints, r.0)) (omega (arith, ints, rw view at r.1))

  pub rest_steps : AreSteps now → AreSteps ys
  rest_steps s = steps_rest xs ys (rw view s)

  pub rest_fits : AreSteps now → (steps_room now +ℤ step.1) ≤ℤ pos (2 ^ 63 - 1)
      → (steps_room ys +ℤ step.1) ≤ℤ pos (2 ^ 63 - 1)
  rest_fits s fits = omega (arith, ints, rw view at (rest_room xs ys (rw view s)))

-- the sum of capacities at a cost, as the code computes it
pub sum_held : (held step : ℤ × ℤ) → FitsSigned w64 held.0 → FitsSigned w64 held.1 → FitsSigned w64 step.1
    → FitsSigned w64 (held.1 +ℤ step.1)
    → ◌≡◌ {A = ℤ × ℤ}
    (to_z w64 (of_z w64 held.0), to_z w64 (of_z w64 (to_z w64 (of_z w64 held.1) +ℤ to_z w64 (of_z w64 step.1))))
    (held.0, held.1 +ℤ step.1)
sum_held held step f g h s = simp to_z-of_z

pub sum_held_fits : (held step : ℤ × ℤ) → FitsSigned w64 held.1 → FitsSigned w64 step.1
    → FitsSigned w64 (held.1 +ℤ step.1)
    → FitsSigned w64 (to_z w64 (of_z w64 held.1) +ℤ to_z w64 (of_z w64 step.1))
sum_held_fits held step g h s = simp to_z-of_z s

-- the entry of the last of a few, as the code makes it
pub last_entry : (rest new : List (ℤ × ℤ)) (last : ℤ × ℤ) → FitsSigned w64 last.0 → FitsSigned w64 last.1
    → new ≡ insert_entry int_cmp rest (to_z w64 (of_z w64 last.0)) (to_z w64 (of_z w64 last.1))
    → new ≡ insert_entry int_cmp rest last.0 last.1
last_entry rest new last f g e = simp to_z-of_z at e
