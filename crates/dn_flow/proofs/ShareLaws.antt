-- What the lines of a pair share of a flow that can be split among them.
use Rattle.std.proofs.Common.{inl, inr, ◌≡◌, ℕ, zero, suc, ◌+◌, ◌-◌, ◌^◌, ◌<◌, ℤ, pos, ◌+ℤ◌, ◌-ℤ◌, ◌≤ℤ◌, ◌<ℤ◌, List, [], ◌∷◌, ◌++◌, length, take, map, filter, Bool, true, false, cond, int_lt, int_eq, Option, Some, None, slice_get, IfSome, MatchOption, refl, sym, ap, ◌∙◌, subst, arith}
use Rattle.std.proofs.lemmas.Bool.{cases_Bool}
use Rattle.std.proofs.Common.{FitsSigned, to_z, of_z, w64, drop, slice_index_or}
use Rattle.std.proofs.lemmas.Int.{by_lt_z, ints, to_z-of_z}
use Rattle.std.proofs.lemmas.List.{drop_more}
use Rattle.dn_arc_theory.proofs.MeansLaws.{fits_some}
use Rattle.std.specs.List.{AllByRecursion}
use Rattle.std.specs.Int.Signed.{≤ℤ_refl}
use Rattle.dn_arc_theory.specs.Canonical.{AreAscending, IsCostArc, IsFixedArc, IsFormOne, IsFreeArc}
use Rattle.dn_arc_theory.specs.Capacities.{total_cap}
use Rattle.dn_arc_theory.specs.Fillings.{forced_units}
use Rattle.dn_arc_theory.specs.Lengths.{HasLength, LeastLength}
use Rattle.dn_arc_theory.specs.Meanings.{SameCurve, SameLength, SameTotal}
use Rattle.dn_arc_theory.specs.Splits.{AreShares, IsSplit, total}
use Rattle.dn_arc_theory.specs.State.CurveListed.{IsSound, is_free, listed}
use Rattle.dn_arc_theory.specs.declared.arc.Form.TheVariants.{One}
use Rattle.dn_arc_theory.proofs.SoundLaws.{sound_canonical}
use Rattle.dn_flow.specs.State.CarryLaws.{forced_some}
use Rattle.dn_arc_theory.specs.State.FillCosts.{free_room, room}
use Rattle.dn_arc_theory.specs.State.Steps.{put_step}
use Rattle.dn_arc_theory.specs.declared.arc.LengthArc.{LengthArc}
use Rattle.dn_arc_theory.specs.declared.arc.CapArc.{CapArc}
use Rattle.dn_arc_theory.specs.declared.arc.CostArc.{CostArc}
use Rattle.dn_arc_theory.proofs.CanonsLaws.{arc_steps, eq_below, eq_past, eq_yes, same_canon}
use Rattle.dn_arc_theory.proofs.FormsLaws.{form_one_arcs}
use Rattle.dn_arc_theory.proofs.PartsLaws.{test_yes, test_no}
use Rattle.dn_flow.specs.State.Spreads.{cap_carried, cost_carried, length_carried}
use Rattle.dn_flow.specs.State.Givings.{HasPart, IsAtStep, IsBalanced, SharesOut, rooms_at, rooms_below, rooms_by}
use Rattle.dn_flow.specs.declared.share.PairShare.{PairShare}

-- the difference of two numbers, of which the second is not negative and not above the first
pub sub_from : (r l : ℤ) → FitsSigned w64 l → pos 0 ≤ℤ l → l ≤ℤ r → r ≤ℤ pos (2 ^ 63 - 1)
    → to_z w64 (of_z w64 (r -ℤ to_z w64 (of_z w64 l))) ≡ r -ℤ l
sub_from r l fits low le most =
    rw (to_z-of_z w64 l fits) (to_z-of_z w64 (r -ℤ l) (fits_some _ (omega (arith, ints, le)) (omega
    (arith, ints, low, most))))

-- a split sends at least the forced units, and at most these and the free capacity
split_bounds : (arcs : List CostArc) (xs : List ℤ) → AreShares arcs xs
    → (forced_units arcs ≤ℤ total xs) × (total xs ≤ℤ (forced_units arcs +ℤ free_room arcs))
split_bounds [] [] h = (≤ℤ_refl _, ≤ℤ_refl _)
split_bounds [] (y ∷ ys) h = absurd h
split_bounds (a ∷ rest) [] h = absurd h
split_bounds (a ∷ rest) (y ∷ ys) h =
    let r = split_bounds rest ys h.2 in (omega (arith, ints, h.0, r.0), omega (arith, ints, h.1, r.1))

-- arcs without lower bounds have no forced units
lengths_free : (arcs : List LengthArc) → forced_units (map length_carried arcs) ≡ pos 0
lengths_free [] = refl
lengths_free (a ∷ rest) = omega (arith, ints, lengths_free rest)

none_shorter : (w : ℤ) (arcs : List LengthArc) → AllByRecursion (λ (a : LengthArc). w ≤ℤ a.length) arcs
    → rooms_below w (map length_carried arcs) ≡ pos 0
none_shorter w [] h = refl
none_shorter w (a ∷ rest) h =
    let r = none_shorter w rest h.1 in
    elim (cases_Bool (int_lt a.length w)) [
      | inl t ↦ absurd (omega (arith, ints, h.0, t))
      | inr t ↦ rw t (omega (arith, ints, r))
    ]

rooms_some : (test : ℤ → Bool) (arcs : List LengthArc) → pos 0 ≤ℤ rooms_by test (map length_carried arcs)
rooms_some test [] = ≤ℤ_refl _
rooms_some test (a ∷ rest) =
    let r = rooms_some test rest in
    elim (cases_Bool (test a.length)) [ inl t ↦ rw t (omega (arith, ints, r)) | inr t ↦ rw t (omega (arith, ints, r)) ]

room_there : (w : ℤ) (arcs : List LengthArc) → HasLength arcs w
    → pos (2 ^ 63 - 1) ≤ℤ rooms_at w (map length_carried arcs)
room_there w [] h = absurd h
room_there w (a ∷ rest) (inl e) =
    let r = rooms_some (λ cost. int_eq cost w) rest in rw (eq_yes a.length w e) (omega (arith, ints, r))
room_there w (a ∷ rest) (inr h) =
    let r = room_there w rest h in
    elim (cases_Bool (int_eq a.length w)) [
      | inl t ↦ rw t (omega (arith, ints, r))
      | inr t ↦ rw t (omega
          (arith, ints, r))
    ]

-- the shortest lines share all units
pub lengths_share : (w units : ℤ) (arcs listed : List LengthArc) → LeastLength listed w → SameLength arcs listed
    → units ≤ℤ pos (2 ^ 63 - 1) → (xs : List ℤ) → IsSplit (map length_carried arcs) units xs
    → IsBalanced (record { cost = w; rest = units; left = units }) (map length_carried arcs)
lengths_share w units arcs listed l s most xs split =
    let least = s.back w l in
    let low = (split_bounds (map length_carried arcs) xs split.shares).0 in
    let free = lengths_free arcs in
    let below = none_shorter w arcs least.least in
    let there = room_there w arcs least.has in
    record {
      left = omega (arith, ints, free, below);
      some = omega (arith, ints, low, free, split.whole);
      fits = omega (arith, ints, there, most);
    }

caps_free : (arcs : List CapArc) → forced_units (map cap_carried arcs) ≡ pos 0
caps_free [] = refl
caps_free (a ∷ rest) = omega (arith, ints, caps_free rest)

none_cheaper : (arcs : List CapArc) → rooms_below (pos 0) (map cap_carried arcs) ≡ pos 0
none_cheaper [] = refl
none_cheaper (a ∷ rest) = omega (arith, ints, none_cheaper rest)

all_there : (arcs : List CapArc) → rooms_at (pos 0) (map cap_carried arcs) ≡ total_cap arcs
all_there [] = refl
all_there (a ∷ rest) = omega (arith, ints, all_there rest)

rooms_all : (arcs : List CapArc) → free_room (map cap_carried arcs) ≡ total_cap arcs
rooms_all [] = refl
rooms_all (a ∷ rest) = omega (arith, ints, rooms_all rest)

-- units that can be split among arcs of this total capacity are no more than it
pub caps_fit : (all units : ℤ) (arcs : List CapArc) → SameTotal arcs (record { cap = all } ∷ []) → (xs : List ℤ)
    → IsSplit (map cap_carried arcs) units xs → units ≤ℤ all
caps_fit all units arcs s xs split =
    let b = split_bounds (map cap_carried arcs) xs split.shares in
    omega (arith, ints, b.1, caps_free arcs, rooms_all arcs, s.is, split.whole)

-- all lines share all units
pub caps_share : (all units : ℤ) (arcs : List CapArc) → SameTotal arcs (record { cap = all } ∷ []) → (xs : List ℤ)
    → IsSplit (map cap_carried arcs) units xs
    → IsBalanced (record { cost = pos 0; rest = units; left = units }) (map cap_carried arcs)
caps_share all units arcs s xs split =
    let b = split_bounds (map cap_carried arcs) xs split.shares in
    let free = caps_free arcs in
    record {
      left = omega (arith, ints, free, none_cheaper arcs);
      some = omega (arith, ints, b.0, free, split.whole);
      fits = omega (arith, ints, b.1, free, rooms_all arcs, all_there arcs, split.whole);
    }

pub nil_room : (i : ℕ) → free_room (take i []) ≡ pos 0
nil_room zero = refl
nil_room (suc i) = refl

-- a list has an element at each index below its length
pub none_past : (arcs : List CostArc) (i : ℕ) → i < length arcs → None ≡ slice_get arcs i → ⊥
none_past [] i low e = omega (arith, low)
none_past (a ∷ arcs) zero low e = cc
none_past (a ∷ arcs) (suc i) low e = none_past arcs i (omega (arith, low)) e

-- the free capacity of one more arc
pub room_more : (arcs : List CostArc) (i : ℕ) (a : CostArc) → slice_get arcs i ≡ Some a
    → free_room (take (suc i) arcs) ≡ free_room (take i arcs) +ℤ room a
room_more [] zero a e = cc
room_more [] (suc i) a e = cc
room_more (b ∷ arcs) zero a e = let same : b ≡ a = cc in rw same (omega (arith, ints))
room_more (b ∷ arcs) (suc i) a e = let more = room_more arcs i a e in omega (arith, ints, more)

module _ (test : ℤ → Bool) where
  -- the capacity of the breakpoints whose cost passes the test
  abbrev steps_by : List (ℤ × ℤ) → ℤ
  steps_by [] = pos 0
  steps_by (step ∷ rest) = cond (test step.0) step.1 (pos 0) +ℤ steps_by rest

  put_by : (steps : List (ℤ × ℤ)) (c r : ℤ)
      → steps_by (put_step steps (c, r)) ≡ cond (test c) r (pos 0) +ℤ steps_by steps
  put_by [] c r = refl
  put_by (step ∷ rest) c r =
      let more = put_by rest c r in
      elim (cases_Bool (int_lt c step.0)) [
        | inl t ↦ rw t refl
        | inr t ↦ elim (cases_Bool (int_lt step.0 c)) [
          | inl u ↦ rw (t, u) (omega (arith, ints, more))
          | inr u ↦
              let same : step.0 ≡ c = omega (arith, ints, t, u) in
              rw (t, u) (elim (cases_Bool (test step.0)) [
                | inl v ↦ let w = subst (λ x. test x ≡ true) same v in rw (v, w) (omega (arith, ints))
                | inr v ↦ let w = subst (λ x. test x ≡ false) same v in rw (v, w) (omega (arith, ints))
              ])
        ]
      ]

  by_steps : (arcs : List CostArc) → AllByRecursion IsCostArc arcs → rooms_by test arcs ≡ steps_by (arc_steps arcs)
  by_steps [] h = refl
  by_steps (a ∷ rest) h =
      let more = by_steps rest h.1 in
      elim (cases_Bool (int_lt a.low a.cap)) [
        | inl t ↦ rw t (omega (arith, ints, more, put_by (arc_steps rest) a.cost (room a)))
        | inr t ↦
            let none : room a ≡ pos 0 = omega (arith, ints, h.0.room, t) in
            rw t (elim (cases_Bool (test a.cost)) [
              | inl v ↦ rw v (omega (arith, ints, more, none))
              | inr v ↦ rw v (omega (arith, ints, more))
            ])
      ]

  -- arcs that mean the same have the same free capacity at each cost
  rooms_same : (xs ys : List CostArc) → AllByRecursion IsCostArc xs → AllByRecursion IsCostArc ys → SameCurve xs ys
      → rooms_by test xs ≡ rooms_by test ys
  rooms_same xs ys h g s =
      by_steps xs h ∙ ap steps_by (same_canon xs ys h g s).steps ∙ sym (by_steps ys g)

  -- fixed arcs have no free capacity
  rooms_past : (fixed free : List CostArc) → AllByRecursion IsFixedArc fixed
      → rooms_by test (fixed ++ free) ≡ rooms_by test free
  rooms_past [] free h = refl
  rooms_past (a ∷ fixed) free h =
      let more = rooms_past fixed free h.1 in
      elim (cases_Bool (test a.cost)) [
        | inl v ↦ rw v (omega (arith, ints, more, h.0.full))
        | inr v ↦ rw v (omega (arith, ints, more))
      ]

all_rooms : (arcs : List CostArc) → rooms_by (λ cost. true) arcs ≡ free_room arcs
all_rooms [] = refl
all_rooms (a ∷ rest) = omega (arith, ints, all_rooms rest)

-- the free arcs of form 1
free_filter : (fixed free : List CostArc) → AllByRecursion IsFixedArc fixed → AllByRecursion IsFreeArc free
    → filter is_free (fixed ++ free) ≡ free
free_filter [] [] h g = refl
free_filter [] (a ∷ free) h g =
    let low : int_lt (pos 0) a.low ≡ false = rw g.0.none refl in rw low (ap (λ l. a ∷ l) (free_filter [] free tt g.1))
free_filter (a ∷ fixed) free h g =
    let low : int_lt (pos 0) a.low ≡ true = test_yes (pos 0) a.low (omega (arith, ints, h.0.some)) in
    rw low (free_filter fixed free h.1 g)

-- arcs above a cost have no free capacity below it or at it
above_below : (c : ℤ) (arcs : List CostArc) → AllByRecursion (λ (b : CostArc). c <ℤ b.cost) arcs
    → rooms_below c arcs ≡ pos 0
above_below c [] h = refl
above_below c (a ∷ rest) h =
    let more = above_below c rest h.1 in
    let past : int_lt a.cost c ≡ false = test_no a.cost c (omega (arith, ints, h.0)) in
    rw past (omega (arith, ints, more))

above_at : (c : ℤ) (arcs : List CostArc) → AllByRecursion (λ (b : CostArc). c <ℤ b.cost) arcs
    → rooms_at c arcs ≡ pos 0
above_at c [] h = refl
above_at c (a ∷ rest) h =
    let more = above_at c rest h.1 in rw (eq_past a.cost c h.0) (omega (arith, ints, more))

at_index : (P : CostArc → Type 0) (arcs : List CostArc) (i : ℕ) (a : CostArc) → AllByRecursion P arcs
    → slice_get arcs i ≡ Some a → P a
at_index P [] zero a h e = cc
at_index P [] (suc i) a h e = cc
at_index P (x ∷ arcs) zero a h e = let same : x ≡ a = cc in subst P same h.0
at_index P (x ∷ arcs) (suc i) a h e = at_index P arcs i a h.1 e

record IsCutAt (free : List CostArc) (i : ℕ) (a : CostArc) : Type 0 where
  pub below : rooms_below a.cost free ≡ free_room (take i free)
  pub at : rooms_at a.cost free ≡ room a

-- the free capacity before an arc of strictly ascending ones, and at it
cut_at : (free : List CostArc) → AreAscending free → (i : ℕ) (a : CostArc) → slice_get free i ≡ Some a
    → IsCutAt free i a
cut_at [] h zero a e = cc
cut_at [] h (suc i) a e = cc
cut_at (b ∷ free) h zero a e =
    let same : b ≡ a = cc in
    subst (IsCutAt (b ∷ free) zero) same (record {
      below =
          let self : int_lt b.cost b.cost ≡ false = test_no b.cost b.cost (≤ℤ_refl _) in
          rw self (omega (arith, ints, above_below b.cost free h.0));
      at = rw (eq_yes b.cost b.cost refl) (omega (arith, ints, above_at b.cost free h.0));
    })
cut_at (b ∷ free) h (suc i) a e =
    let lt = at_index (λ (x : CostArc). b.cost <ℤ x.cost) free i a h.0 e in
    let r = cut_at free h.1 i a e in
    record {
      below = let low : int_lt b.cost a.cost ≡ true = test_yes b.cost a.cost lt in rw low (ap
          (λ z. room b +ℤ z) r.below);
      at = rw (eq_below b.cost a.cost lt) (omega (arith, ints, r.at));
    }

module _ (arcs listed : List CostArc) (each : AllByRecursion IsCostArc arcs) (form : IsFormOne listed)
    (same : SameCurve arcs listed) (units : ℤ) (xs : List ℤ) (split : IsSplit arcs units xs) where
  abbrev free : List CostArc
  free = filter is_free listed

  free_is : free ≡ form.free
  free_is = ap (filter is_free) form.parts ∙ free_filter form.fixed form.free form.each_fixed form.each_free

  rooms_are : (test : ℤ → Bool) → rooms_by test arcs ≡ rooms_by test free
  rooms_are test =
      rooms_same test arcs listed each (form_one_arcs listed form) same ∙ ap (rooms_by test) form.parts
      ∙ rooms_past test form.fixed form.free form.each_fixed ∙ ap (rooms_by test) (sym free_is)

  forced_are : forced_units arcs ≡ forced_units listed
  forced_are = (same_canon arcs listed each (form_one_arcs listed form) same).units

  -- units that can be split are between the forced ones and these with the free capacity
  pub curve_low : forced_units listed ≤ℤ units
  curve_low = omega (arith, ints, forced_are, (split_bounds arcs xs split.shares).0, split.whole)

  pub curve_high : units ≤ℤ (forced_units listed +ℤ free_room free)
  curve_high =
      let rooms = sym (all_rooms arcs) ∙ rooms_are (λ cost. true) ∙ all_rooms free in
      omega (arith, ints, forced_are, rooms, (split_bounds arcs xs split.shares).1, split.whole)

  -- the lines share what fills the curve up to its step
  pub curve_balance : (s : PairShare) → s.left ≡ units → IsAtStep (forced_units listed) free units s → IsBalanced s arcs
  curve_balance s left (inl (empty, rest, is)) =
      let below = rooms_are (λ cost. int_lt cost s.cost) ∙ ap (rooms_by (λ cost. int_lt cost s.cost)) empty in
      let at = rooms_are (λ cost. int_eq cost s.cost) ∙ ap (rooms_by (λ cost. int_eq cost s.cost)) empty in
      record {
        left = omega (arith, ints, left, is, forced_are, below, rest);
        some = omega (arith, ints, rest);
        fits = omega (arith, ints, rest, at);
      }
  curve_balance s left (inr (i, a, there, cost, sum, few, sign)) =
      let ascending = subst AreAscending (sym free_is) form.ascending in
      let cut = cut_at free ascending i a there in
      let below = rooms_are (λ c. int_lt c s.cost) ∙ ap (λ c. rooms_below c free) cost ∙ cut.below in
      let at = rooms_are (λ c. int_eq c s.cost) ∙ ap (λ c. rooms_at c free) cost ∙ cut.at in
      record {
        left = omega (arith, ints, left, sum, forced_are, below);
        some = elim sign [
          | inl first ↦
              let none : free_room (take i free) ≡ pos 0 = rw first refl in omega (arith, ints, sum, none, curve_low)
          | inr more ↦ omega (arith, ints, more)
        ];
        fits = omega (arith, ints, few, at);
      }

carried_is : (arcs : List CostArc) → map cost_carried arcs ≡ arcs
carried_is [] = refl
carried_is (a ∷ rest) = ap (λ l. a ∷ l) (carried_is rest)

-- the lines of a `min` pair share units that can be split among them
pub costs_share : (arcs listed : List CostArc) → AllByRecursion IsCostArc arcs → IsFormOne listed
    → SameCurve arcs listed
    → (units : ℤ) (xs : List ℤ) → IsSplit (map cost_carried arcs) units xs → (share : Option PairShare)
    → IfSome share (λ s. s.left ≡ units)
    → (forced_units listed ≤ℤ units → units ≤ℤ (forced_units listed +ℤ free_room (filter is_free listed))
    → MatchOption share ⊥ (IsAtStep (forced_units listed) (filter is_free listed) units))
    → SharesOut (map cost_carried arcs) share
costs_share arcs listed each form same units xs split share left step =
    rw (carried_is arcs) (here share left (step (curve_low arcs listed each form same units xs split')
    (curve_high arcs listed each form same units xs split')))
  where
    split' : IsSplit arcs units xs
    split' = subst (λ l. IsSplit l units xs) (carried_is arcs) split

    here : (share : Option PairShare) → IfSome share (λ s. s.left ≡ units)
        → MatchOption share ⊥ (IsAtStep (forced_units listed) (filter is_free listed) units) → SharesOut arcs share
    here None l s = s
    here (Some share) l s = curve_balance arcs listed each form same units xs split' share l s

-- the free arcs of a valid curve have capacity, and its forced units are not negative
module _ (units cost whole : ℤ) (steps : List (ℤ × ℤ)) (sound : IsSound units cost whole steps) where
  pub sound_form : IsFormOne (listed One units cost steps)
  sound_form = sound_canonical units cost whole steps sound One

  pub sound_low : pos 0 ≤ℤ forced_units (listed One units cost steps)
  sound_low = forced_some _ (form_one_arcs _ sound_form)

  pub sound_room : (i : ℕ) (a : CostArc) → slice_get (filter is_free (listed One units cost steps)) i ≡ Some a
      → pos 1 ≤ℤ a.cap
  sound_room i a e =
      let form = sound_form in
      let free = ap (filter is_free) form.parts ∙ free_filter form.fixed form.free form.each_fixed form.each_free in
      (at_index IsFreeArc form.free i a form.each_free (subst (λ l. slice_get l i ≡ Some a) free e)).room

-- free capacity is not negative
rooms_least : (test : ℤ → Bool) (lines : List CostArc) → AllByRecursion IsCostArc lines → pos 0 ≤ℤ rooms_by test lines
rooms_least test [] h = ≤ℤ_refl _
rooms_least test (a ∷ rest) h =
    let more = rooms_least test rest h.1 in
    elim (cases_Bool (test a.cost)) [
      | inl t ↦ rw t (omega (arith, ints, more, h.0.room))
      | inr t ↦ rw t (omega (arith, ints, more))
    ]

-- what a line takes of a share that has what it and these lines take leaves what these take
pub record IsTaken (s : PairShare) (u rest : ℤ) (lines : List CostArc) : Type 0 where
  pub enough : u ≤ℤ s.left
  pub after : (left : ℤ) → s.left ≡ u +ℤ left
      → IsBalanced (record { cost = s.cost; rest = rest; left = left }) lines

pub balanced_part : (s : PairShare) (line : CostArc) (u rest : ℤ) (lines : List CostArc) → HasPart s line u rest
    → IsCostArc line → AllByRecursion IsCostArc lines → IsBalanced s (line ∷ lines) → IsTaken s u rest lines
balanced_part s line u rest lines part one each b =
    let low = forced_some lines each in
    let below = rooms_least (λ cost. int_lt cost s.cost) lines each in
    let at = rooms_least (λ cost. int_eq cost s.cost) lines each in
    let more = part.enough b.some in
    by_lt_z line.cost s.cost
    (λ lt.
    let full = part.cheap lt in
    let kept = part.same (λ e. omega (arith, ints, lt, e)) in
    let left = rw (test_yes line.cost s.cost lt) at b.left in
    let fits = rw (eq_below line.cost s.cost lt) at b.fits in
    record {
      enough = omega (arith, ints, full, kept, left, low, below, more);
      after = λ l e. record {
        left = omega (arith, ints, full, kept, left, e);
        some = more;
        fits = omega (arith, ints, kept, fits);
      };
    })
    (λ ge. by_lt_z s.cost line.cost
    (λ gt.
    let least = part.dear gt in
    let kept = part.same (λ e. omega (arith, ints, gt, e)) in
    let left = rw (test_no line.cost s.cost ge) at b.left in
    let fits = rw (eq_past line.cost s.cost gt) at b.fits in
    record {
      enough = omega (arith, ints, least, kept, left, low, below, more);
      after = λ l e. record {
        left = omega (arith, ints, least, kept, left, e);
        some = more;
        fits = omega (arith, ints, kept, fits);
      };
    })
    (λ le.
    let same : line.cost ≡ s.cost = omega (arith, ints, ge, le) in
    let moved = part.moved same in
    let left = rw (test_no line.cost s.cost ge) at b.left in
    let fits = rw (eq_yes line.cost s.cost same) at b.fits in
    record {
      enough = omega (arith, ints, moved, left, low, below, more);
      after = λ l e. record {
        left = omega (arith, ints, moved, left, e);
        some = more;
        fits = elim (part.last same) [
          | inl full ↦ omega (arith, ints, full, moved, fits)
          | inr none ↦ omega (arith, ints, none, at)
        ];
      };
    }))

-- numbers that are not negative have a sum that is not negative
sum_some : (numbers : List ℤ) → AllByRecursion (λ u. pos 0 ≤ℤ u) numbers → pos 0 ≤ℤ total numbers
sum_some [] h = ≤ℤ_refl _
sum_some (u ∷ numbers) h = omega (arith, ints, h.0, sum_some numbers h.1)

-- the sum of numbers up to one of them is at most that of all
pub next_fits : (numbers : List ℤ) (i : ℕ) (sum : ℤ) → i < length numbers → pos 0 ≤ℤ sum
    → (sum +ℤ total (drop i numbers)) ≡ total numbers → AllByRecursion (λ u. pos 0 ≤ℤ u) (drop i numbers)
    → total numbers ≤ℤ pos (2 ^ 63 - 1) → FitsSigned w64 (sum +ℤ to_z w64 (of_z w64 (slice_index_or numbers i (pos 0))))
next_fits numbers i sum low some whole left most =
    let next = slice_index_or numbers i (pos 0) in
    let rest = drop (i + 1) numbers in
    let is : drop i numbers ≡ next ∷ rest = drop_more numbers i (pos 0) low in
    let left' = rw is at left in
    let whole' = rw is at whole in
    let more = sum_some rest left'.1 in
    let fits = fits_some next left'.0 (omega (arith, ints, whole', more, some, most)) in
    rw (to_z-of_z w64 next fits)
    (fits_some (sum +ℤ next) (omega (arith, ints, some, left'.0)) (omega (arith, ints, whole', more, most)))
