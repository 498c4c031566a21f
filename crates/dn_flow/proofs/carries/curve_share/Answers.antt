use Rattle.std.proofs.Common.{rules, inl, inr, ◌≡◌, ◌+◌, ◌-◌, ◌^◌, suc, pos, ◌-ℤ◌, ◌≤ℤ◌, filter, length, take, refl, sym, ap, ◌∙◌, arith, to_z, of_z, w64}
use Rattle.std.proofs.lemmas.Int.{ints, to_z-of_z}
use Rattle.std.proofs.lemmas.List.{nil_from_length, take_all}
use Rattle.dn_arc_theory.specs.State.CurveListed.{is_free, step_arc}
use Rattle.dn_arc_theory.specs.State.FillCosts.{free_room}
use Rattle.dn_arc_theory.proofs.MeansLaws.{fits_some}
use Rattle.dn_bundle.specs.State.Listings.{form_one_arcs}
use Rattle.dn_bundle.proofs.StepLaws.{not_less}
use Rattle.dn_flow.proofs.ShareLaws.{nil_room, none_past, room_more, sound_low, sound_room, sub_from}
use Rattle.dn_flow.proofs.carries.curve_share.Goals as goal

pub overflow_sub-rest : goal.overflow_sub-rest
overflow_sub-rest c =
    let curve = c.args.curve.now in
    let low = sound_low curve.units curve.cost curve.total curve.steps curve.sound in
    let enough = not_less c.args.units.now c.forced-forced.result.0 (search rules)
    (search rules) c.if-units-forced.false in
    let most : c.args.units.now ≤ℤ pos (2 ^ 63 - 1) = search rules in
    rw (to_z-of_z w64 c.args.units.now (search rules), to_z-of_z w64 c.forced-forced.result.0 (search rules))
    (fits_some _ (omega (arith, ints, enough)) (omega (arith, ints, low, most, c.forced-forced.ensures.units)))

pub loop-i-init : goal.loop-i-init
loop-i-init c =
    let curve = c.args.curve.now in
    let units = c.args.units.now in
    let forced = c.forced-forced.result.0 in
    let low = sound_low curve.units curve.cost curve.total curve.steps curve.sound in
    let enough = not_less units forced (search rules) (search rules) c.if-units-forced.false in
    let most : units ≤ℤ pos (2 ^ 63 - 1) = search rules in
    let is = ap (λ z. to_z w64 (of_z w64 (z -ℤ to_z w64 (of_z w64 forced)))) (to_z-of_z w64 units (search rules))
    ∙ sub_from units forced (search rules) (omega (arith, ints, low, c.forced-forced.ensures.units)) enough most in
    record {
      sum = rw is (omega (arith, ints, c.forced-forced.ensures.units));
      some = rw is (omega (arith, ints, enough));
      sign = inl refl;
    }

pub returns-in_err-cost-clause-step : goal.returns-in_err-cost-clause-step
returns-in_err-cost-clause-step c = λ low high.
    absurd (none_past (filter is_free (form_one_arcs c.args.curve.now)) c.loop-i.i
    (omega (arith, c.loop-i-test.true, c.free_len-i-end.ensures.arcs)) c.in_err-cost.ensures)

pub returns-then-rest-room-clause-step : goal.returns-then-rest-room-clause-step
returns-then-rest-room-clause-step c = λ low high.
    let arc = step_arc (c.in_ok-cost.cost, c.in_ok-cost.room) in
    let few = rw (to_z-of_z w64 c.in_ok-cost.room (search rules)) at c.if-rest-room.true in
    inr (
      c.loop-i.i,
      arc,
      sym c.in_ok-cost.ensures,
      to_z-of_z w64 c.in_ok-cost.cost (search rules),
      c.loop-i.invariant.sum,
      omega (arith, ints, few),
      c.loop-i.invariant.sign,
    )

pub overflow_sub-rest-in-loop-i : goal.overflow_sub-rest-in-loop-i
overflow_sub-rest-in-loop-i c =
    let curve = c.args.curve.now in
    let arc = step_arc (c.in_ok-cost.cost, c.in_ok-cost.room) in
    let some = sound_room curve.units curve.cost curve.total curve.steps curve.sound c.loop-i.i arc
    (sym c.in_ok-cost.ensures) in
    let most : to_z w64 c.loop-i.rest-bits ≤ℤ pos (2 ^ 63 - 1) = search rules in
    rw (to_z-of_z w64 c.in_ok-cost.room (search rules))
    (fits_some _ (omega (arith, ints, rw (to_z-of_z w64 c.in_ok-cost.room (search rules)) at c.if-rest-room.false))
    (omega (arith, ints, some, most)))

pub loop-i-preserved : goal.loop-i-preserved
loop-i-preserved c =
    let curve = c.args.curve.now in
    let free = filter is_free (form_one_arcs curve) in
    let arc = step_arc (c.in_ok-cost.cost, c.in_ok-cost.room) in
    let there = sym c.in_ok-cost.ensures in
    let some = sound_room curve.units curve.cost curve.total curve.steps curve.sound c.loop-i.i arc there in
    let most : to_z w64 c.loop-i.rest-bits ≤ℤ pos (2 ^ 63 - 1) = search rules in
    let past = rw (to_z-of_z w64 c.in_ok-cost.room (search rules)) at c.if-rest-room.false in
    let is = sub_from (to_z w64 c.loop-i.rest-bits) c.in_ok-cost.room (search rules) (omega (arith, ints, some))
    (omega (arith, ints, past)) most in
    let more = room_more free c.loop-i.i arc there in
    record {
      sum =
          let next : c.loop-i.i + 1 ≡ suc c.loop-i.i = omega arith in
          rw (is, next) (omega (arith, ints, more, c.loop-i.invariant.sum));
      some = rw is (omega (arith, ints, past));
      sign = inr (rw is (omega (arith, ints, past)));
    }

pub returns-then-rest-ne0-clause-step : goal.returns-then-rest-ne0-clause-step
returns-then-rest-ne0-clause-step c = λ low high.
    let free = filter is_free (form_one_arcs c.args.curve.now) in
    let all = take_all c.loop-i.i free (omega (arith, c.loop-i-test.false, c.free_len-i-end.ensures.arcs)) in
    let sum = rw all at c.loop-i.invariant.sum in
    let none : to_z w64 c.loop-i.rest-bits ≡ pos 0 = omega (arith, ints, sum, high, c.loop-i.invariant.some) in
    search rules

pub returns-clause-step : goal.returns-clause-step
returns-clause-step c = λ low high.
    let free = filter is_free (form_one_arcs c.args.curve.now) in
    let rest : to_z w64 c.loop-i.rest-bits ≡ pos 0 = search rules in
    elim c.loop-i.invariant.sign [
      | inl first ↦
          let few : length free ≡ 0 = omega (arith, c.loop-i-test.false, c.free_len-i-end.ensures.arcs, first) in
          let empty = nil_from_length free few in
          let none = ap (λ l. free_room (take c.loop-i.i l)) empty in
          inl (empty, rest, omega (arith, ints, c.loop-i.invariant.sum, rest, none, nil_room c.loop-i.i))
      | inr more ↦ absurd (omega (arith, ints, rest, more))
    ]
