-- The first canonical arc of a curve and the arc after each, in form 1 and in form 2, by its fixed arcs and its
-- breakpoints. If a fixed arc and a breakpoint make one arc, its capacity fits 64 bits.
use Rattle.std.proofs.Common.{◌≡◌, ℕ, suc, zero, ◌+◌, ◌-◌, ◌^◌, ◌≤◌, ℤ, pos, ◌+ℤ◌, ◌≤ℤ◌, ◌<ℤ◌, Bool, true, false, List, [], ◌∷◌, ◌++◌, map, find, slice_get, Option, Some, None, IfSome, refl, sym, ap, ◌∙◌, subst, arith, inl, inr, w64, to_z, of_z, FitsSigned, int_lt, option_map, unwrap_or}
use Rattle.std.specs.List.{AllByRecursion, Contains}
use Rattle.std.specs.Int.Signed.{≤ℤ_refl}
use Rattle.std.proofs.lemmas.Bool.{cases_Bool}
use Rattle.std.proofs.lemmas.Int.{ints, by_lt_z, to_z-of_z}
use Rattle.std.proofs.lemmas.List.Elements.{All-contains_itself, Contains-append_left, Contains-append_right, recursion_from_All}
use Rattle.dn_arc_theory.specs.declared.arc.CostArc.{CostArc}
use Rattle.dn_arc_theory.specs.declared.arc.Form.TheVariants.{One, Two}
use Rattle.dn_arc_theory.specs.Canonical.{IsFixedArc, AreNear, AreAscending}
use Rattle.dn_arc_theory.specs.Fillings.{forced_units}
use Rattle.dn_arc_theory.specs.State.Steps.{step_past, AreSteps, steps_room}
use Rattle.dn_arc_theory.specs.State.CurveListed.{fixed_arc, step_arc, fixed_arcs, join_arc, join_arcs, joined_head, listed, IsSound}
use Rattle.dn_arc_theory.proofs.FormsLaws.{AreAbove, AreFixed}
use Rattle.dn_arc_theory.proofs.PartsLaws.{test_yes, test_no}
use Rattle.dn_arc_theory.proofs.MeansLaws.{fits_some, fits_next}
use Rattle.dn_arc_theory.proofs.StepArcsLaws.{free_arcs, steps_some}
use Rattle.dn_arc_theory.proofs.JoinsLaws.{joined}
use Rattle.dn_arc_theory.proofs.ListedLaws.{Carries, carried, listed_two}
use Rattle.dn_arc_theory.proofs.SoundLaws.{none_is}
use Rattle.dn_bundle.proofs.StepLaws.{less, not_less}

-- the first arc above a cost
abbrev pub arc_past : ℤ → List CostArc → Option CostArc
arc_past c arcs = find (λ (b : CostArc). int_lt c b.cost) arcs

past_yes : (c : ℤ) (a : CostArc) (rest : List CostArc) → c <ℤ a.cost → arc_past c (a ∷ rest) ≡ Some a
past_yes c a rest h = rw test_yes

past_no : (c : ℤ) (a : CostArc) (rest : List CostArc) → a.cost ≤ℤ c → arc_past c (a ∷ rest) ≡ arc_past c rest
past_no c a rest h = rw test_no

-- the fixed arc that the code makes
abbrev pub made_arc : ℤ → ℤ → CostArc
made_arc units cost = fixed_arc (to_z w64 (of_z w64 units)) (to_z w64 (of_z w64 cost))

-- the first fixed arc above a cost, by the comparisons of the code
module _ (c cost : ℤ) (f : FitsSigned w64 c) (fc : FitsSigned w64 cost) where
  pub past_first : (units : ℤ) (rest arcs : List CostArc) → fixed_arc units cost ∷ rest ≡ arcs
      → int_lt (to_z w64 (of_z w64 c)) (to_z w64 (of_z w64 cost)) ≡ true → FitsSigned w64 units
      → Some (made_arc units cost) ≡ arc_past c arcs
  past_first units rest arcs e h fu =
      let lt = less c cost f fc h in
      simp to_z-of_z (rw (← e, test_yes c cost lt))

  pub past_one : (units : ℤ) (arcs : List CostArc) → fixed_arc units cost ∷ [] ≡ arcs
      → int_lt (to_z w64 (of_z w64 c)) (to_z w64 (of_z w64 cost)) ≡ false → None ≡ arc_past c arcs
  past_one units arcs e h = rw (← e, test_no c cost (not_less c cost f fc h))

  module _ (units above : ℤ) (arcs : List CostArc)
      (e : fixed_arc units cost ∷ fixed_arc above (cost +ℤ pos 1) ∷ [] ≡ arcs)
      (h : int_lt (to_z w64 (of_z w64 c)) (to_z w64 (of_z w64 cost)) ≡ false) where
    le : cost ≤ℤ c
    le = not_less c cost f fc h

    pub past_second : of_z w64 c ≡ of_z w64 cost → cost <ℤ pos (2 ^ 63 - 1) → FitsSigned w64 above
        → Some
        (fixed_arc (to_z w64 (of_z w64 above))
        (to_z w64 (of_z w64 (to_z w64 (of_z w64 cost) +ℤ pos 1)))) ≡ arc_past c arcs
    past_second same next fa =
        let at : c ≡ cost = sym (to_z-of_z w64 c f) ∙ ap (to_z w64) same ∙ to_z-of_z w64 cost fc in
        let lower = fits_next cost fc next in
        simp to_z-of_z (rw (← e, test_no c cost le, test_yes c (cost +ℤ pos 1) (omega (arith, ints))))

    pub past_both : (of_z w64 c ≡ of_z w64 cost → ⊥) → None ≡ arc_past c arcs
    past_both n =
        let up : (cost +ℤ pos 1) ≤ℤ c =
        by_lt_z cost c (λ lt. omega (arith, ints))
        (λ ge. absurd (n (ap (of_z w64) (let at : c ≡ cost = omega (arith, ints) in at)))) in
        rw (← e, test_no c cost le, test_no c (cost +ℤ pos 1) up)

-- the first arc of breakpoints above a cost
pub past_steps : (steps : List (ℤ × ℤ)) (c : ℤ)
    → arc_past c (map step_arc steps) ≡ option_map step_arc (step_past steps c)
past_steps [] c = refl
past_steps (step ∷ rest) c = elim (cases_Bool (int_lt c step.0)) [ inl t ↦ rw t | inr t ↦ rw t (past_steps rest c) ]

pub first_step : (steps : List (ℤ × ℤ)) → slice_get (map step_arc steps) 0 ≡ option_map step_arc (slice_get steps 0)
first_step [] = refl
first_step (step ∷ rest) = refl

-- joining a free arc adds nothing to LOW
none_more : (a : CostArc) (step : ℤ × ℤ)
    → joined a (step_arc step) ≡ record { low = a.low; cap = a.cap +ℤ step.1; cost = step.0 }
none_more a step = let e : a.low +ℤ pos 0 ≡ a.low = omega (arith, ints) in rw e

-- the place of a fixed arc that is inserted
module _ (a b : CostArc) (rest : List CostArc) where
  pub join_before : a.cost <ℤ b.cost → join_arc a (b ∷ rest) ≡ a ∷ b ∷ rest
  join_before h = simp test_yes

  pub join_past : b.cost <ℤ a.cost → join_arc a (b ∷ rest) ≡ b ∷ join_arc a rest
  join_past h = let le : b.cost ≤ℤ a.cost = omega (arith, ints) in simp (test_no, test_yes)

  pub join_at : a.cost ≡ b.cost → join_arc a (b ∷ rest) ≡ joined a b ∷ rest
  join_at h =
      let le : b.cost ≤ℤ a.cost = omega (arith, ints) in
      let ge : a.cost ≤ℤ b.cost = omega (arith, ints) in
      simp test_no

module _ (a b : CostArc) where
  head_past : b.cost <ℤ a.cost → joined_head a (Some b) ≡ b
  head_past h = simp test_yes

  head_before : a.cost <ℤ b.cost → joined_head a (Some b) ≡ a
  head_before h = let le : a.cost ≤ℤ b.cost = omega (arith, ints) in simp (test_no, test_yes)

  head_at : a.cost ≡ b.cost → joined_head a (Some b) ≡ joined a b
  head_at h =
      let le : b.cost ≤ℤ a.cost = omega (arith, ints) in
      let ge : a.cost ≤ℤ b.cost = omega (arith, ints) in
      simp test_no

-- the first of a fixed arc and the free capacity, by the comparisons of the code
module _ (a : CostArc) (free : Option (ℤ × ℤ)) (step : ℤ × ℤ) (is : free ≡ Some step) (fa : FitsSigned w64 a.cost)
    (fs : FitsSigned w64 step.0) where
  head_is : (b : CostArc) → joined_head a (Some (step_arc step)) ≡ b → b ≡ joined_head a (option_map step_arc free)
  head_is b e = rw (is, e)

  pub free_head : int_lt (to_z w64 (of_z w64 step.0)) (to_z w64 (of_z w64 a.cost)) ≡ true
      → step_arc step ≡ joined_head a (option_map step_arc free)
  free_head h = head_is (step_arc step) (head_past a (step_arc step) (less step.0 a.cost fs fa h))

  module _ (same : of_z w64 step.0 ≡ of_z w64 a.cost)
      (fits : (x : ℤ × ℤ) → free ≡ Some x → a.cost ≡ x.0 → FitsSigned w64 (a.cap +ℤ x.1)) (fl : FitsSigned w64 a.low)
      (fr : FitsSigned w64 a.cap) (fc : FitsSigned w64 step.1) where
    same_cost : a.cost ≡ step.0
    same_cost = sym (to_z-of_z w64 a.cost fa) ∙ ap (to_z w64) (sym same) ∙ to_z-of_z w64 step.0 fs

    pub both_fit : FitsSigned w64 (to_z w64 (of_z w64 a.cap) +ℤ to_z w64 (of_z w64 step.1))
    both_fit = simp to_z-of_z (fits step is same_cost)

    pub both_head : record {
      low = to_z w64 (of_z w64 a.low);
      cap = to_z w64 (of_z w64 (to_z w64 (of_z w64 a.cap) +ℤ to_z w64 (of_z w64 step.1)));
      cost = to_z w64 (of_z w64 step.0);
    } ≡ joined_head a (option_map step_arc free)
    both_head =
        let sum = fits step is same_cost in
        head_is _ (head_at a (step_arc step) same_cost ∙ simp to_z-of_z (none_more a step))

  pub fixed_head : int_lt (to_z w64 (of_z w64 step.0)) (to_z w64 (of_z w64 a.cost)) ≡ false
      → (of_z w64 step.0 ≡ of_z w64 a.cost → ⊥) → a ≡ joined_head a (option_map step_arc free)
  fixed_head h n =
      let le = not_less step.0 a.cost fs fa h in
      head_is a
      (by_lt_z a.cost step.0 (λ lt. head_before a (step_arc step) lt)
      (λ ge. absurd (n (ap (of_z w64) (let e : step.0 ≡ a.cost = omega (arith, ints) in e)))))

pub by_order : {P : Type 0} (a b : ℤ) → (a <ℤ b → P) → (a ≡ b → P) → (b <ℤ a → P) → P
by_order a b f g h = by_lt_z a b f (λ le. by_lt_z b a h (λ ge. g (omega (arith, ints))))

join_first : (a : CostArc) (arcs : List CostArc)
    → slice_get (join_arc a arcs) 0 ≡ Some (joined_head a (slice_get arcs 0))
join_first a [] = refl
join_first a (b ∷ rest) =
    by_order a.cost b.cost (λ lt. rw (join_before a b rest lt, head_before a b lt))
    (λ eq. rw (join_at a b rest eq, head_at a b eq))
    (λ gt. rw (join_past a b rest gt, head_past a b gt))

-- the first arc above a cost that is below the inserted arc's
find_join : (c : ℤ) (a : CostArc) (arcs : List CostArc) → c <ℤ a.cost
    → arc_past c (join_arc a arcs) ≡ Some (joined_head a (arc_past c arcs))
find_join c a [] h = past_yes c a [] h
find_join c a (b ∷ rest) h =
    by_order a.cost b.cost
    (λ lt. rw (join_before a b rest lt, past_yes c a (b ∷ rest) h, past_yes c b rest (omega (arith, ints)))
    (ap Some (sym (head_before a b lt))))
    (λ eq. let up : c <ℤ b.cost = omega (arith, ints) in
    rw (join_at a b rest eq, past_yes c (joined a b) rest up, past_yes c b rest up) (ap Some (sym (head_at a b eq))))
    (λ gt. rw (join_past a b rest gt)
    (by_lt_z c b.cost
    (λ up. rw (past_yes c b (join_arc a rest) up, past_yes c b rest up) (ap Some (sym (head_past a b gt))))
    (λ le. rw (past_no c b (join_arc a rest) le, past_no c b rest le) (find_join c a rest h))))

-- the first arc above a cost that is not below the inserted arc's
find_past : (c : ℤ) (a : CostArc) (arcs : List CostArc) → a.cost ≤ℤ c → arc_past c (join_arc a arcs) ≡ arc_past c arcs
find_past c a [] h = past_no c a [] h
find_past c a (b ∷ rest) h =
    by_order a.cost b.cost (λ lt. rw (join_before a b rest lt) (past_no c a (b ∷ rest) h))
    (λ eq. let le : b.cost ≤ℤ c = omega (arith, ints) in
    rw (join_at a b rest eq, past_no c (joined a b) rest le, past_no c b rest le))
    (λ gt. let le : b.cost ≤ℤ c = omega (arith, ints) in
    rw (join_past a b rest gt, past_no c b (join_arc a rest) le, past_no c b rest le) (find_past c a rest h))

-- inserting an arc of a higher cost does not change the first arc
two_heads : (a b : CostArc) (o : Option CostArc) → a.cost <ℤ b.cost
    → joined_head a (Some (joined_head b o)) ≡ joined_head a o
two_heads a b None h = head_before a b h
two_heads a b (Some d) h =
    by_order b.cost d.cost
    (λ lt. rw (head_before b d lt, head_before a b h, head_before a d (omega (arith, ints))))
    (λ eq. let up : a.cost <ℤ d.cost = omega (arith, ints) in
    rw (head_at b d eq, head_before a (joined b d) up, head_before a d up))
    (λ gt. rw (head_past b d gt))

-- the first of a fixed arc, if there is one, and the free arcs
abbrev pub first_joined : Option CostArc → Option CostArc → Option CostArc
first_joined None free = free
first_joined (Some fixed) free = Some (joined_head fixed free)

pub joined_first : (fixed free : List CostArc) → AreFixed fixed
    → slice_get (join_arcs fixed free) 0 ≡ first_joined (slice_get fixed 0) (slice_get free 0)
joined_first [] free f = refl
joined_first (a ∷ []) free f = join_first a free
joined_first (a ∷ b ∷ []) free f =
    let near = f.near in
    rw (join_first a (join_arc b free), join_first b free) (ap Some (two_heads a b _ (omega (arith, ints))))
joined_first (a ∷ b ∷ c ∷ rest) free f = absurd f.near

pub joined_past : (c : ℤ) (fixed free : List CostArc) → AreFixed fixed
    → arc_past c (join_arcs fixed free) ≡ first_joined (arc_past c fixed) (arc_past c free)
joined_past c [] free f = refl
joined_past c (a ∷ []) free f =
    by_lt_z c a.cost (λ lt. rw (find_join c a free lt, past_yes c a [] lt))
    (λ le. rw (find_past c a free le, past_no c a [] le))
joined_past c (a ∷ b ∷ []) free f =
    let near = f.near in
    by_lt_z c a.cost
    (λ lt. rw (find_join c a (join_arc b free) lt, find_join c b free (omega (arith, ints)), past_yes c a (b ∷ []) lt)
    (ap Some (two_heads a b (arc_past c free) (omega (arith, ints)))))
    (λ le. rw (find_past c a (join_arc b free) le, past_no c a (b ∷ []) le)
    (by_lt_z c b.cost (λ lt. rw (find_join c b free lt, past_yes c b [] lt))
    (λ past. rw (find_past c b free past, past_no c b [] past))))
joined_past c (a ∷ b ∷ d ∷ rest) free f = absurd f.near

-- the first arc above a cost that is below all arcs
none_past : (c : ℤ) (arcs : List CostArc) → AreAbove c arcs → arc_past c arcs ≡ slice_get arcs 0
none_past c [] h = refl
none_past c (a ∷ rest) h = past_yes c a rest h.0

abbrev Holds : {X : Type 0} → (X → Type 0) → Option X → Type 0
Holds P None = Unit {0}
Holds P (Some x) = P x

-- what holds of each element holds of the one at a position, and of one that is found
get_holds : {X : Type 0} (P : X → Type 0) (xs : List X) (i : ℕ) (x : X) → AllByRecursion P xs → slice_get xs i ≡ Some x
    → P x
get_holds P [] i x h e = cc
get_holds P (y ∷ ys) zero x h e = subst (Holds P) e h.0
get_holds P (y ∷ ys) (suc i) x h e = get_holds P ys i x h.1 e

find_holds : {X : Type 0} (P : X → Type 0) (test : X → Bool) (xs : List X) (x : X) → AllByRecursion P xs
    → find test xs ≡ Some x → P x
find_holds P test xs x h e = subst (Holds P) e (among xs h)
  where
    among : (xs : List _) → AllByRecursion P xs → Holds P (find test xs)
    among [] h = tt
    among (y ∷ ys) h = elim (cases_Bool (test y)) [ inl t ↦ rw t h.0 | inr t ↦ rw t (among ys h.1) ]

-- what is found in a list, and what is at a position of it, is an element of the list
each_itself : {X : Type 0} (xs : List X) → AllByRecursion (Contains xs) xs
each_itself xs = recursion_from_All (Contains xs) xs (All-contains_itself xs)

pub found_in : {X : Type 0} (test : X → Bool) (xs : List X) (o : Option X) → o ≡ find test xs → IfSome o (Contains xs)
found_in test xs None e = tt
found_in test xs (Some x) e = find_holds (Contains xs) test xs x (each_itself xs) (sym e)

pub at_in : {X : Type 0} (xs : List X) (i : ℕ) (o : Option X) → o ≡ slice_get xs i → IfSome o (Contains xs)
at_in xs i None e = tt
at_in xs i (Some x) e = get_holds (Contains xs) xs i x (each_itself xs) (sym e)

-- an element of a part of a list is one of the whole
in_left : {X : Type 0} (xs ys : List X) (o : Option X) → IfSome o (Contains xs) → IfSome o (Contains (xs ++ ys))
in_left xs ys None h = tt
in_left xs ys (Some x) h = Contains-append_left xs ys x h

in_right : {X : Type 0} (xs ys : List X) (o : Option X) → IfSome o (Contains ys) → IfSome o (Contains (xs ++ ys))
in_right xs ys None h = tt
in_right xs ys (Some x) h = Contains-append_right xs ys x h

some_same : (a b : CostArc) → Some a ≡ Some b → a ≡ b
some_same a b e = ap (λ (o : Option CostArc). unwrap_or o a) e

-- the first arc above the cost of an arc is the arc after it
pub after_place : (arcs : List CostArc) (i : ℕ) (a : CostArc) → AreAscending arcs → slice_get arcs i ≡ Some a
    → arc_past a.cost arcs ≡ slice_get arcs (suc i)
after_place [] i a r e = cc
after_place (b ∷ rest) zero a r e =
    subst (λ x. arc_past x.cost (b ∷ rest) ≡ slice_get rest 0) (some_same b a e)
    (past_no b.cost b rest (≤ℤ_refl b.cost) ∙ none_past b.cost rest r.0)
after_place (b ∷ rest) (suc i) a r e =
    let lt = get_holds (λ (d : CostArc). b.cost <ℤ d.cost) rest i a r.0 e in
    past_no a.cost b rest (omega (arith, ints)) ∙ after_place rest i a r.1 e

-- the arc after a free arc is the next free arc
pub after_free : (fixed free : List CostArc) (i : ℕ) (a : CostArc) → AllByRecursion IsFixedArc fixed → AreAscending free
    → a.low ≡ pos 0 → slice_get (fixed ++ free) i ≡ Some a → arc_past a.cost free ≡ slice_get (fixed ++ free) (suc i)
after_free [] free i a f r z e = after_place free i a r e
after_free (b ∷ fixed) free zero a f r z e = let low = subst (Holds (λ (d : CostArc). pos 1 ≤ℤ d.low)) e f.0.some in
    absurd (omega (arith, ints))
after_free (b ∷ fixed) free (suc i) a f r z e = after_free fixed free i a f.1 r z e

-- the first option, or else the second
abbrev pub or_first : Option CostArc → Option CostArc → Option CostArc
or_first None o = o
or_first (Some a) o = Some a

first_of_both : (fixed free : List CostArc)
    → or_first (slice_get fixed 0) (slice_get free 0) ≡ slice_get (fixed ++ free) 0
first_of_both [] free = refl
first_of_both (a ∷ rest) free = refl

-- an arc with LOW above 0 is a fixed arc
fixed_place : (c : ℤ) (fixed free : List CostArc) (i : ℕ) (a : CostArc) → AreAbove c fixed
    → AllByRecursion (λ (b : CostArc). b.low ≡ pos 0) free → (a.low ≡ pos 0 → ⊥) → slice_get (fixed ++ free) i ≡ Some a
    → c <ℤ a.cost
fixed_place c [] free i a h n z e = absurd (z (get_holds (λ (b : CostArc). b.low ≡ pos 0) free i a n e))
fixed_place c (b ∷ fixed) free zero a h n z e = subst (Holds (λ (d : CostArc). c <ℤ d.cost)) e h.0
fixed_place c (b ∷ fixed) free (suc i) a h n z e = fixed_place c fixed free i a h.1 n z e

-- the arc after a fixed arc is the next fixed arc, or else the first free arc
pub after_fixed : (fixed free : List CostArc) (i : ℕ) (a : CostArc) → AreAscending fixed
    → AllByRecursion (λ (b : CostArc). b.low ≡ pos 0) free → (a.low ≡ pos 0 → ⊥) → slice_get (fixed ++ free) i ≡ Some a
    → or_first (arc_past a.cost fixed) (slice_get free 0) ≡ slice_get (fixed ++ free) (suc i)
after_fixed [] free i a r n z e = absurd (z (get_holds (λ (b : CostArc). b.low ≡ pos 0) free i a n e))
after_fixed (b ∷ fixed) free zero a r n z e =
    subst (λ x. or_first (arc_past x.cost (b ∷ fixed)) (slice_get free 0) ≡ slice_get (fixed ++ free) 0)
    (some_same b a e)
    (rw (past_no b.cost b fixed (≤ℤ_refl b.cost), none_past b.cost fixed r.0) (first_of_both fixed free))
after_fixed (b ∷ fixed) free (suc i) a r n z e =
    let lt = fixed_place b.cost fixed free i a r.0 n z e in
    rw (past_no a.cost b fixed (omega (arith, ints))) (after_fixed fixed free i a r.1 n z e)

steps_none : (steps : List (ℤ × ℤ)) → AllByRecursion (λ (b : CostArc). b.low ≡ pos 0) (map step_arc steps)
steps_none [] = tt
steps_none (step ∷ rest) = (refl, steps_none rest)

fixed_ascends : (fixed : List CostArc) → AreNear fixed → AreAscending fixed
fixed_ascends [] n = tt
fixed_ascends (a ∷ []) n = (tt, tt)
fixed_ascends (a ∷ b ∷ []) n = ((omega (arith, ints), tt), (tt, tt))
fixed_ascends (a ∷ b ∷ c ∷ rest) n = absurd n

at_next : (arcs : List CostArc) (i : ℕ) → slice_get arcs (suc i) ≡ slice_get arcs (i + 1)
at_next arcs i = ap (slice_get arcs) (let e : suc i ≡ i + 1 = omega arith in e)

-- a part is at least 0 and at most the whole
abbrev IsPart : ℤ → ℤ → Type 0
IsPart whole part = (pos 0 ≤ℤ part) × (part ≤ℤ whole)

units_some : (fixed : List CostArc) → AllByRecursion IsFixedArc fixed → pos 0 ≤ℤ forced_units fixed
units_some [] f = ≤ℤ_refl _
units_some (a ∷ rest) f = omega (arith, ints, units_some rest f.1)

fixed_parts : (units : ℤ) (fixed : List CostArc) → AllByRecursion IsFixedArc fixed → forced_units fixed ≤ℤ units
    → AllByRecursion (λ (b : CostArc). IsPart units b.cap) fixed
fixed_parts units [] f h = tt
fixed_parts units (a ∷ rest) f h =
    let left = units_some rest f.1 in
    ((omega (arith, ints), omega (arith, ints)), fixed_parts units rest f.1 (omega (arith, ints)))

-- no breakpoint has more capacity than all together
step_parts : (most : ℤ) (steps : List (ℤ × ℤ)) → AreSteps steps → steps_room steps ≤ℤ most
    → AllByRecursion (λ (step : ℤ × ℤ). IsPart most step.1) steps
step_parts most [] s h = tt
step_parts most (step ∷ rest) s h =
    let left = steps_some rest s.2 in
    ((omega (arith, ints), omega (arith, ints)), step_parts most rest s.2 (omega (arith, ints)))

-- the numbers of a curve
module _ (units cost total : ℤ) (steps : List (ℤ × ℤ)) (s : IsSound units cost total steps) where
  is : Carries (fixed_arcs units cost) units cost
  is = carried units cost steps s.some (none_is units cost total steps s) s.ascending

  pub next_free : (a : CostArc) (i : ℕ) → a.low ≡ pos 0 → slice_get (listed One units cost steps) i ≡ Some a
      → option_map step_arc (step_past steps a.cost) ≡ slice_get (listed One units cost steps) (i + 1)
  next_free a i z e =
      sym (past_steps steps a.cost) ∙ after_free (fixed_arcs units cost) (map step_arc steps) i a is.are.each
      (free_arcs steps s.ascending).ascending z e ∙ at_next (listed One units cost steps) i

  pub next_fixed : (a : CostArc) (i : ℕ) → (a.low ≡ pos 0 → ⊥) → slice_get (listed One units cost steps) i ≡ Some a
      → or_first (arc_past a.cost (fixed_arcs units cost)) (option_map step_arc (slice_get steps 0)) ≡ slice_get
      (listed One units cost steps) (i + 1)
  next_fixed a i z e =
      ap (or_first (arc_past a.cost (fixed_arcs units cost))) (sym (first_step steps))
      ∙ after_fixed (fixed_arcs units cost) (map step_arc steps) i a (fixed_ascends (fixed_arcs units cost) is.are.near)
      (steps_none steps) z e
      ∙ at_next (listed One units cost steps) i

  pub first_of_one : or_first (slice_get (fixed_arcs units cost) 0)
      (option_map step_arc (slice_get steps 0)) ≡ slice_get (listed One units cost steps) 0
  first_of_one =
      ap (or_first (slice_get (fixed_arcs units cost) 0)) (sym (first_step steps))
      ∙ first_of_both (fixed_arcs units cost) (map step_arc steps)

  pub first_of_two : first_joined (slice_get (fixed_arcs units cost) 0)
      (option_map step_arc (slice_get steps 0)) ≡ slice_get (listed Two units cost steps) 0
  first_of_two =
      ap (first_joined (slice_get (fixed_arcs units cost) 0)) (sym (first_step steps))
      ∙ sym (joined_first (fixed_arcs units cost) (map step_arc steps) is.are)

  pub past_of_two : (c : ℤ)
      → first_joined (arc_past c (fixed_arcs units cost)) (option_map step_arc (step_past steps c)) ≡ arc_past c
      (listed Two units cost steps)
  past_of_two c =
      ap (first_joined (arc_past c (fixed_arcs units cost))) (sym (past_steps steps c))
      ∙ sym (joined_past c (fixed_arcs units cost) (map step_arc steps) is.are)

  pub next_two : (a : CostArc) (i : ℕ) → slice_get (listed Two units cost steps) i ≡ Some a
      → arc_past a.cost (listed Two units cost steps) ≡ slice_get (listed Two units cost steps) (i + 1)
  next_two a i e =
      after_place (listed Two units cost steps) i a
      (listed_two units cost steps s.some (none_is units cost total steps s) s.ascending).ascending e
      ∙ at_next (listed Two units cost steps) i

  -- the arcs that the code finds in form 1 are listed
  pub past_free_in : (c : ℤ) (o : Option CostArc) → o ≡ option_map step_arc (step_past steps c)
      → IfSome o (Contains (listed One units cost steps))
  past_free_in c o e =
      in_right (fixed_arcs units cost) (map step_arc steps) o
      (found_in _ (map step_arc steps) o (e ∙ sym (past_steps steps c)))

  pub first_free_in : (o : Option CostArc) → o ≡ option_map step_arc (slice_get steps 0)
      → IfSome o (Contains (listed One units cost steps))
  first_free_in o e =
      in_right (fixed_arcs units cost) (map step_arc steps) o
      (at_in (map step_arc steps) 0 o (e ∙ sym (first_step steps)))

  pub past_fixed_in : (c : ℤ) (o : Option CostArc) → o ≡ arc_past c (fixed_arcs units cost)
      → IfSome o (Contains (listed One units cost steps))
  past_fixed_in c o e =
      in_left (fixed_arcs units cost) (map step_arc steps) o (found_in _ (fixed_arcs units cost) o e)

  fixed_are : AllByRecursion (λ (b : CostArc). IsPart units b.cap) (fixed_arcs units cost)
  fixed_are = let u = is.units_is in fixed_parts units (fixed_arcs units cost) is.are.each (omega (arith, ints))

  steps_are : AllByRecursion (λ (step : ℤ × ℤ). IsPart (steps_room steps) step.1) steps
  steps_are = step_parts (steps_room steps) steps s.ascending (≤ℤ_refl _)

  sum_fits : (fixed : CostArc) (step : ℤ × ℤ) → IsPart units fixed.cap → IsPart (steps_room steps) step.1
      → FitsSigned w64 (fixed.cap +ℤ step.1)
  sum_fits fixed step p q = fits_some (fixed.cap +ℤ step.1) (omega (arith, ints)) (omega (arith, ints))

  -- the sum of the capacities of a fixed arc and a breakpoint fits 64 bits
  pub first_fits : (fixed : CostArc) (step : ℤ × ℤ) → slice_get (fixed_arcs units cost) 0 ≡ Some fixed
      → slice_get steps 0 ≡ Some step → FitsSigned w64 (fixed.cap +ℤ step.1)
  first_fits fixed step e f =
      sum_fits fixed step (get_holds (λ (b : CostArc). IsPart units b.cap) (fixed_arcs units cost) 0 fixed fixed_are e)
      (get_holds (λ (step : ℤ × ℤ). IsPart (steps_room steps) step.1) steps 0 step steps_are f)

  pub past_fits : (c : ℤ) (fixed : CostArc) (step : ℤ × ℤ) → arc_past c (fixed_arcs units cost) ≡ Some fixed
      → step_past steps c ≡ Some step → FitsSigned w64 (fixed.cap +ℤ step.1)
  past_fits c fixed step e f =
      sum_fits fixed step
      (find_holds (λ (b : CostArc). IsPart units b.cap) (λ (b : CostArc). int_lt c b.cost)
      (fixed_arcs units cost) fixed fixed_are e)
      (find_holds (λ (step : ℤ × ℤ). IsPart (steps_room steps) step.1)
      (λ (step : ℤ × ℤ). int_lt c step.0) steps step steps_are f)

-- a position beyond the end of a list has no element
pub none_from : {X : Type 0} (xs : List X) (j i : ℕ) → slice_get xs j ≡ None → j ≤ i → slice_get xs i ≡ None
none_from [] j i e h = refl
none_from (x ∷ xs) zero i e h = cc
none_from (x ∷ xs) (suc j) zero e h = absurd (omega arith)
none_from (x ∷ xs) (suc j) (suc i) e h = none_from xs j i e (omega arith)
