-- Adding an arc to a shape without forced units and with free capacity at two costs, or making such a shape.
use Rattle.std.proofs.Common.{◌≡◌, ℕ, ℤ, pos, ◌+ℤ◌, ◌-ℤ◌, ◌<ℤ◌, List, [], ◌∷◌, Option, Some, true, false, int_lt, refl, sym, ap, ◌∙◌, subst, arith, w64, to_z, of_z, FitsSigned, unwrap_or}
use Rattle.std.proofs.Math.IntN.{zero-*ℤ}
use Rattle.std.specs.Int.{w32}
use Rattle.std.proofs.lemmas.Int.{ints, to_z-of_z}
use Rattle.dn_arc_theory.specs.declared.arc.CostArc.{CostArc}
use Rattle.dn_arc_theory.specs.Canonical.{IsCostArc}
use Rattle.dn_arc_theory.specs.State.Steps.{put_step, steps_room}
use Rattle.dn_arc_theory.proofs.PartsLaws.{test_yes}
use Rattle.dn_arc_theory.proofs.MeansLaws.{fits_some}
use Rattle.dn_bundle.specs.declared.curve.shape.OneCost.{OneCost}
use Rattle.dn_bundle.specs.declared.curve.shape.TwoCosts.{TwoCosts}
use Rattle.dn_bundle.specs.State.Shapes.{plain, two, two_steps, free_numbers, shape_numbers, AreSound, IsGrown, NeedRoom, free}
use Rattle.dn_bundle.specs.declared.curve.shape.Shape.{Shape}
use Rattle.dn_bundle.proofs.GapLaws.{eq_no}
use Rattle.dn_bundle.proofs.GrowLaws.{most}
use Rattle.dn_bundle.proofs.FixedLaws.{is_zero}
use Rattle.dn_bundle.proofs.ShapeLaws.{some_step}
use Rattle.dn_bundle.proofs.StepLaws.{less, put_at, put_before, put_past}

-- free capacity to which an arc without LOW adds
pub free_grown : (old new : List (ℤ × ℤ)) (a : CostArc) → a.low ≡ pos 0 → pos 0 <ℤ a.cap
    → steps_room new ≡ steps_room old +ℤ a.cap → new ≡ put_step old (a.cost, a.cap)
    → IsGrown (free_numbers old) a (free_numbers new)
free_grown old new a low some room e = record {
  units = omega (arith, ints);
  cost = rw (low, zero-*ℤ a.cost) refl;
  total = room;
  steps =
      let all : a.cap -ℤ a.low ≡ a.cap = omega (arith, ints) in
      rw (all, test_yes (pos 0) a.cap some) e;
}

module _ (gap : ℕ) (cost : ℤ) (room : ℤ × ℤ) (a : CostArc) (s : AreSound (free_numbers (two_steps gap cost room)))
    (h : IsCostArc a) where
  ascends : cost <ℤ (cost +ℤ pos gap)
  ascends = s.ascending.1.0

  pub first_grown : a.low ≡ pos 0 → pos 0 <ℤ a.cap → a.cost ≡ cost
      → IsGrown (free_numbers (two_steps gap cost room)) a
      (free_numbers (two_steps gap cost (room.0 +ℤ a.cap, room.1)))
  first_grown low some e =
      free_grown _ _ a low some (omega (arith, ints))
      (sym (put_at (cost, room.0) (a.cost, a.cap) ((cost +ℤ pos gap, room.1) ∷ []) e))

  pub second_grown : a.low ≡ pos 0 → pos 0 <ℤ a.cap → a.cost ≡ cost +ℤ pos gap
      → IsGrown (free_numbers (two_steps gap cost room)) a
      (free_numbers (two_steps gap cost (room.0, room.1 +ℤ a.cap)))
  second_grown low some e =
      free_grown _ _ a low some (omega (arith, ints))
      (sym (put_past (cost, room.0) (a.cost, a.cap) ((cost +ℤ pos gap, room.1) ∷ [])
      (omega (arith, ints, ascends)) ∙ ap (λ l. (cost, room.0) ∷ l)
      (put_at (cost +ℤ pos gap, room.1) (a.cost, a.cap) [] e)))

  -- free capacity at a third cost needs memory
  pub other_needs : a.low ≡ pos 0 → pos 0 <ℤ a.cap → (a.cost ≡ cost → ⊥) → (a.cost ≡ cost +ℤ pos gap → ⊥)
      → NeedRoom (free_numbers (two_steps gap cost room)) a
  other_needs low some first second =
      free (omega (arith, ints)) (rw (eq_no a.cost cost first, eq_no a.cost (cost +ℤ pos gap) second))

same_of : (x y : ℤ) → FitsSigned w64 x → FitsSigned w64 y → of_z w64 x ≡ of_z w64 y → x ≡ y
same_of x y f g e = sym (to_z-of_z w64 x f) ∙ ap (to_z w64) e ∙ to_z-of_z w64 y g

some_of : (x : ℤ) → FitsSigned w64 x → int_lt (to_z w64 (of_z w64 x)) (pos 1) ≡ false → pos 0 <ℤ x
some_of x f h = let e : int_lt x (pos 1) ≡ false = simp to_z-of_z at h in grind (arith, ints)

-- a number as the code converts it
abbrev raw : ℤ → ℤ
raw x = to_z w64 (of_z w64 x)

-- numbers of two costs to which the code gives other free capacities
abbrev made : TwoCosts → ℤ × ℤ → TwoCosts
made held room = record { gap = held.gap; cost = to_z w32 (of_z w32 held.cost); free = room }

made_same : (held : TwoCosts) (room new : ℤ × ℤ) → FitsSigned w32 held.cost → room ≡ new
    → made held room ≡ record { gap = held.gap; cost = held.cost; free = new }
made_same held room new f e = rw (e, to_z-of_z w32 held.cost f)

taken : (old : TwoCosts) (a : CostArc) (new x : TwoCosts) → Some new ≡ Some x
    → IsGrown (shape_numbers (two old)) a (shape_numbers (two new))
    → IsGrown (shape_numbers (two old)) a (shape_numbers (two x))
taken old a new x e g =
    subst (λ (t : TwoCosts). IsGrown (shape_numbers (two old)) a (shape_numbers (two t)))
    (ap (λ (o : Option TwoCosts). unwrap_or o new) e) g

-- the numbers of two costs to which the code adds an arc
module _ (held : TwoCosts) (a : CostArc) (s : AreSound (shape_numbers (two held))) (h : IsCostArc a)
    (some : pos 0 <ℤ a.cap) (fits : FitsSigned w64 ((shape_numbers (two held)).total +ℤ a.cap))
    (fw : FitsSigned w32 held.cost) (f0 : FitsSigned w64 held.free.0) (f1 : FitsSigned w64 held.free.1)
    (fa : FitsSigned w64 a.cap) (fk : FitsSigned w64 a.cost) (fl : FitsSigned w64 a.low) where
  first_fits : FitsSigned w64 (held.free.0 +ℤ a.cap)
  first_fits =
      let m = most _ fits in
      fits_some (held.free.0 +ℤ a.cap) (omega (arith, ints, s.ascending.0)) (omega (arith, ints, s.ascending.2.0))

  second_fits : FitsSigned w64 (held.free.1 +ℤ a.cap)
  second_fits =
      let m = most _ fits in
      fits_some (held.free.1 +ℤ a.cap) (omega (arith, ints, s.ascending.2.0)) (omega (arith, ints, s.ascending.0))

  module _ (low : of_z w64 a.low ≡ 0) (first : ℤ × ℤ) (e : first ≡ (held.cost, held.free.0))
      (k : FitsSigned w64 first.0) where
    pub first_made : of_z w64 a.cost ≡ of_z w64 first.0 → (x : TwoCosts)
        → Some (made held (raw (raw held.free.0 +ℤ raw a.cap), raw held.free.1)) ≡ Some x
        → IsGrown (shape_numbers (two held)) a (shape_numbers (two x))
    first_made at x is =
        let f = first_fits in
        let new : ◌≡◌ {A = ℤ × ℤ} (raw (raw held.free.0 +ℤ raw a.cap), raw held.free.1)
        (held.free.0 +ℤ a.cap, held.free.1) = simp to_z-of_z in
        taken held a (made held (raw (raw held.free.0 +ℤ raw a.cap), raw held.free.1)) x is
        (subst (λ (t : TwoCosts). IsGrown (shape_numbers (two held)) a (shape_numbers (two t)))
        (sym (made_same held (raw (raw held.free.0 +ℤ raw a.cap), raw held.free.1)
        (held.free.0 +ℤ a.cap, held.free.1) fw new))
        (first_grown held.gap held.cost held.free a s h (is_zero a.low fl low) some
        (same_of a.cost first.0 fk k at ∙ ap (λ (p : ℤ × ℤ). p.0) e)))

    module _ (second : ℤ × ℤ) (g : second ≡ (held.cost +ℤ pos held.gap, held.free.1))
        (l : FitsSigned w64 second.0) where
      pub second_made : of_z w64 a.cost ≡ of_z w64 second.0 → (x : TwoCosts)
          → Some (made held (raw held.free.0, raw (raw held.free.1 +ℤ raw a.cap))) ≡ Some x
          → IsGrown (shape_numbers (two held)) a (shape_numbers (two x))
      second_made at x is =
          let f = second_fits in
          let new : ◌≡◌ {A = ℤ × ℤ} (raw held.free.0, raw (raw held.free.1 +ℤ raw a.cap))
          (held.free.0, held.free.1 +ℤ a.cap) = simp to_z-of_z in
          taken held a (made held (raw held.free.0, raw (raw held.free.1 +ℤ raw a.cap))) x is
          (subst (λ (t : TwoCosts). IsGrown (shape_numbers (two held)) a (shape_numbers (two t)))
          (sym (made_same held (raw held.free.0, raw (raw held.free.1 +ℤ raw a.cap))
          (held.free.0, held.free.1 +ℤ a.cap) fw new))
          (second_grown held.gap held.cost held.free a s h (is_zero a.low fl low) some
          (same_of a.cost second.0 fk l at ∙ ap (λ (p : ℤ × ℤ). p.0) g)))

      pub neither : (of_z w64 a.cost ≡ of_z w64 first.0 → ⊥) → (of_z w64 a.cost ≡ of_z w64 second.0 → ⊥)
          → NeedRoom (shape_numbers (two held)) a
      neither n m =
          other_needs held.gap held.cost held.free a s h (is_zero a.low fl low) some
          (λ at. n (ap (of_z w64) (at ∙ sym (ap (λ (p : ℤ × ℤ). p.0) e))))
          (λ at. m (ap (of_z w64) (at ∙ sym (ap (λ (p : ℤ × ℤ). p.0) g))))

-- the numbers that the code makes of two costs
module _ (held : TwoCosts) (s : AreSound (shape_numbers (two held))) (f0 : FitsSigned w64 held.free.0)
    (f1 : FitsSigned w64 held.free.1) where
  pub made_room : raw (raw held.free.0 +ℤ raw held.free.1) ≡ steps_room (two_steps held.gap held.cost held.free)
  made_room =
      let e : steps_room (two_steps held.gap held.cost held.free) ≡ held.free.0 +ℤ held.free.1 =
      omega (arith, ints) in
      let f : FitsSigned w64 (held.free.0 +ℤ held.free.1) =
      fits_some (held.free.0 +ℤ held.free.1) (omega (arith, ints, s.ascending.0, s.ascending.2.0))
      (omega (arith, ints)) in
      rw e (simp to_z-of_z)

-- an arc without LOW makes a second cost of one
module _ (one : OneCost) (a : CostArc) (none : one.low ≡ 0) (low : a.low ≡ pos 0) (room : pos 0 <ℤ one.free)
    (some : pos 0 <ℤ a.cap) where
  made_grown : (steps : List (ℤ × ℤ)) → steps_room steps ≡ one.free +ℤ a.cap
      → steps ≡ put_step ((one.cost, one.free) ∷ []) (a.cost, a.cap)
      → IsGrown (shape_numbers (plain one)) a (free_numbers steps)
  made_grown steps total e = record {
    units = omega (arith, ints);
    cost = rw (none, low, zero-*ℤ one.cost, zero-*ℤ a.cost) refl;
    total = omega (arith, ints);
    steps =
        let all : a.cap -ℤ a.low ≡ a.cap = omega (arith, ints) in
        rw (all, test_yes (pos 0) a.cap some, some_step one room) e;
  }

  pub above_grown : one.cost <ℤ a.cost
      → IsGrown (shape_numbers (plain one)) a (free_numbers ((one.cost, one.free) ∷ (a.cost, a.cap) ∷ []))
  above_grown lt =
      made_grown _ (omega (arith, ints)) (sym (put_past (one.cost, one.free) (a.cost, a.cap) [] lt))

  pub below_grown : a.cost <ℤ one.cost
      → IsGrown (shape_numbers (plain one)) a (free_numbers ((a.cost, a.cap) ∷ (one.cost, one.free) ∷ []))
  below_grown lt =
      made_grown _ (omega (arith, ints)) (sym (put_before (one.cost, one.free) (a.cost, a.cap) [] lt))

-- the shape that the code makes of one cost and an arc
module _ (one : OneCost) (a : CostArc) (none : one.low ≡ 0) (low : of_z w64 a.low ≡ 0)
    (room : int_lt (raw one.free) (pos 1) ≡ false) (some : int_lt (raw a.cap) (pos 1) ≡ false)
    (fl : FitsSigned w64 a.low) (fr : FitsSigned w64 one.free) (fc : FitsSigned w64 one.cost)
    (fa : FitsSigned w64 a.cap) (fk : FitsSigned w64 a.cost) (shape : Shape) where
  pub above_made : int_lt (raw one.cost) (raw a.cost) ≡ true
      → shape_numbers shape
      ≡ free_numbers ((raw one.cost, raw one.free) ∷ (raw a.cost, raw a.cap) ∷ [])
      → IsGrown (shape_numbers (plain one)) a (shape_numbers shape)
  above_made lt e =
      let new : ◌≡◌ {A = List (ℤ × ℤ)} ((raw one.cost, raw one.free) ∷ (raw a.cost, raw a.cap) ∷ [])
      ((one.cost, one.free) ∷ (a.cost, a.cap) ∷ []) = simp to_z-of_z in
      rw e (subst (λ steps. IsGrown (shape_numbers (plain one)) a (free_numbers steps)) (sym new)
      (above_grown one a none (is_zero a.low fl low) (some_of one.free fr room) (some_of a.cap fa some)
      (less one.cost a.cost fc fk lt)))

  pub below_made : int_lt (raw a.cost) (raw one.cost) ≡ true
      → shape_numbers shape
      ≡ free_numbers ((raw a.cost, raw a.cap) ∷ (raw one.cost, raw one.free) ∷ [])
      → IsGrown (shape_numbers (plain one)) a (shape_numbers shape)
  below_made lt e =
      let new : ◌≡◌ {A = List (ℤ × ℤ)} ((raw a.cost, raw a.cap) ∷ (raw one.cost, raw one.free) ∷ [])
      ((a.cost, a.cap) ∷ (one.cost, one.free) ∷ []) = simp to_z-of_z in
      rw e (subst (λ steps. IsGrown (shape_numbers (plain one)) a (free_numbers steps)) (sym new)
      (below_grown one a none (is_zero a.low fl low) (some_of one.free fr room) (some_of a.cap fa some)
      (less a.cost one.cost fk fc lt)))
