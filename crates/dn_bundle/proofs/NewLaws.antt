-- An arc for which a curve needs memory makes another entry, or adds to forced units as the definitions say.
use Rattle.std.proofs.Common.{◌≡◌, ℕ, suc, ◌+◌, ◌<◌, ◌≤◌, ℤ, pos, ◌+ℤ◌, ◌-ℤ◌, ◌*ℤ◌, ◌<ℤ◌, ◌≤ℤ◌, Bool, true, false, List, [], ◌∷◌, ◌++◌, length, refl, sym, ◌∙◌, arith, w64, cond, inl, inr, FitsSigned, int_lt}
use Rattle.std.proofs.Math.IntN.{*ℤ_comm}
use Rattle.std.proofs.lemmas.Int.{ints, by_lt_z}
use Rattle.dn_arc_theory.specs.declared.arc.CostArc.{CostArc}
use Rattle.dn_arc_theory.specs.declared.arc.Form.TheVariants.{One}
use Rattle.dn_arc_theory.specs.Canonical.{IsCostArc}
use Rattle.dn_arc_theory.specs.Entries.{cost_entries}
use Rattle.dn_arc_theory.specs.State.Sizes.{cost_sizes}
use Rattle.dn_arc_theory.specs.State.CanonArcs.{NeedsMore}
use Rattle.dn_arc_theory.specs.State.Steps.{steps_of, add_step, has_step}
use Rattle.dn_arc_theory.specs.State.CurveListed.{listed, IsSound}
use Rattle.dn_arc_theory.proofs.CanonsLaws.{length_put}
use Rattle.dn_arc_theory.proofs.PartsLaws.{test_yes, test_no}
use Rattle.dn_arc_theory.proofs.CostKindLaws.{cost_sized}
use Rattle.dn_arc_theory.proofs.ListedLaws.{listed_units, listed_cost}
use Rattle.dn_arc_theory.proofs.ProductsLaws.{mul_suc, mul_mono}
use Rattle.dn_arc_theory.proofs.SoundLaws.{none_is, sound_arcs}
use Rattle.dn_bundle.specs.declared.curve.shape.OneCost.{OneCost}
use Rattle.dn_bundle.specs.State.Shapes.{one_step, plain, shape_numbers, LeavesPlain, NeedsRoom, forced, free, more, NeedRoom}
use Rattle.dn_bundle.proofs.GrowLaws.{grown_sound, grown_same}
use Rattle.dn_bundle_trait.proofs.BundleLaws.{all_end}
use Rattle.dn_bundle.proofs.CurveLaws.{entries_listed}
use Rattle.dn_bundle.proofs.GapLaws.{eq_no}

-- 1 if there are forced units
abbrev one_if : ℤ → ℕ
one_if z = cond (int_lt (pos 0) z) 1 0

forced_grows : (units low : ℤ) → pos 0 ≤ℤ low → one_if units ≤ one_if (units +ℤ low)
forced_grows units low h =
    by_lt_z (pos 0) units
    (λ lt. rw (test_yes (pos 0) units lt, test_yes (pos 0) (units +ℤ low) (omega (arith, ints))) (omega arith))
    (λ le. rw (test_no (pos 0) units le) (omega arith))

forced_new : (units low : ℤ) → units ≡ pos 0 → pos 0 <ℤ low → one_if units < one_if (units +ℤ low)
forced_new units low u h =
    rw (test_no (pos 0) units (omega (arith, ints)), test_yes (pos 0) (units +ℤ low) (omega (arith, ints)))
    (omega arith)

at_least : (b : Bool) (n : ℕ) → n ≤ cond b n (suc n)
at_least true n = omega arith
at_least false n = omega arith

module _ (units cost total : ℤ) (steps : List (ℤ × ℤ)) (a : CostArc) (s : IsSound units cost total steps)
    (h : IsCostArc a) (ft : FitsSigned w64 (total +ℤ a.cap)) (fk : FitsSigned w64 a.cost) where
  abbrev rest : ℤ × ℤ
  rest = (a.cost, a.cap -ℤ a.low)

  abbrev next : List (ℤ × ℤ)
  next = add_step steps rest

  abbrev u : ℤ
  u = units +ℤ a.low

  abbrev c : ℤ
  c = cost +ℤ (a.low *ℤ a.cost)

  sound : IsSound u c (total +ℤ a.cap) next
  sound =
      grown_sound units cost total steps a (total +ℤ a.cap) s h refl ft fk u c (total +ℤ a.cap) next refl refl refl refl

  entries_next : cost_entries (listed One units cost steps ++ a ∷ []) ≡ one_if u + length next
  entries_next =
      sym (cost_sized.same_entries (listed One u c next) (listed One units cost steps ++ a ∷ [])
      (sound_arcs u c (total +ℤ a.cap) next sound One)
      (all_end IsCostArc (listed One units cost steps) a (sound_arcs units cost total steps s One) h)
      (grown_same units cost total steps a (total +ℤ a.cap) s h refl ft fk u c (total +ℤ a.cap) next refl refl refl
      refl))
      ∙ entries_listed u c (total +ℤ a.cap) next sound

  length_grows : length steps ≤ length next
  length_grows =
      by_lt_z (pos 0) (a.cap -ℤ a.low)
      (λ lt. rw (test_yes (pos 0) (a.cap -ℤ a.low) lt, length_put steps rest s.ascending) (at_least _ (length steps)))
      (λ le. rw (test_no (pos 0) (a.cap -ℤ a.low) le) (omega arith))

  -- if the curve needs memory for the arc, so do the arcs that it lists
  pub needs_more : NeedsRoom units cost steps a → NeedsMore cost_sizes (listed One units cost steps) a
  needs_more (forced none low) =
      let old = entries_listed units cost total steps s in
      inl (omega (arith, old, entries_next, forced_new units a.low none low, length_grows))
  needs_more (free room new) =
      let old = entries_listed units cost total steps s in
      let longer : length next ≡ suc (length steps) =
      rw (test_yes (pos 0) (a.cap -ℤ a.low) room, length_put steps rest s.ascending, new) in
      inl (omega (arith, old, entries_next, forced_grows units a.low h.some, longer))
  needs_more (more some low other) =
      let n = none_is units cost total steps s in
      let l = listed_units units cost steps s.some n s.ascending in
      let f = listed_cost units cost steps s.some n s.ascending in
      inr (record { there = rw l some; adds = low; other = rw (f, l) other })

-- units cost more at a higher cost
less_mul : (u x y : ℤ) → pos 0 <ℤ u → x <ℤ y → (u *ℤ x) <ℤ (u *ℤ y)
less_mul u x y some lt =
    let m = mul_mono (x +ℤ pos 1) y u (omega (arith, ints)) (omega (arith, ints)) in
    let e = *ℤ_comm u (x +ℤ pos 1) in
    let f = mul_suc u x in
    omega (arith, ints, *ℤ_comm u y)

same_each : (u x y : ℤ) → pos 0 <ℤ u → u *ℤ x ≡ u *ℤ y → x ≡ y
same_each u x y some e =
    by_lt_z x y (λ lt. let l = less_mul u x y some lt in absurd (omega (arith, ints)))
    (λ le. by_lt_z y x (λ lt. let l = less_mul u y x some lt in absurd (omega (arith, ints)))
    (λ ge. omega (arith, ints)))

-- the free capacity of a plain shape has one cost
plain_lacks : (one : OneCost) (cost : ℤ) → (cost ≡ one.cost → ⊥)
    → has_step (steps_of (one_step one.cost one.free) []) cost ≡ false
plain_lacks one cost n =
    by_lt_z (pos 0) one.free (λ lt. rw (test_yes (pos 0) one.free lt, eq_no cost one.cost n))
    (λ le. rw (test_no (pos 0) one.free le))

-- a plain shape that cannot take an arc needs memory for it
pub leaves_room : (one : OneCost) (a : CostArc) → IsCostArc a → (a.cap ≡ pos 0 → ⊥)
    → LeavesPlain one a → NeedRoom (shape_numbers (plain one)) a
leaves_room one a h some (inl many) =
    by_lt_z (pos 0) (pos one.low) (λ lt. more lt many.0 (inr many.1)) (λ le. forced (omega (arith, ints)) many.0)
leaves_room one a h some (inr other) =
    by_lt_z (pos 0) a.low
    (λ adds. by_lt_z (pos 0) (pos one.low)
    (λ lt. more lt adds (inl (λ e. other (sym (same_each (pos one.low) one.cost a.cost lt e)))))
    (λ le. forced (omega (arith, ints)) adds))
    (λ none. by_lt_z (pos 0) a.cap (λ lt. free (omega (arith, ints)) (plain_lacks one a.cost other))
    (λ le. absurd (some (omega (arith, ints)))))
