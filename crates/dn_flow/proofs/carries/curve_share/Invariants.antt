use Rattle.std.proofs.Common.{◌≡◌, ◌⊎◌, pos, ◌+ℤ◌, ◌-ℤ◌, ◌≤ℤ◌, ◌<ℤ◌, filter, take}
use Rattle.dn_arc_theory.specs.Fillings.{forced_units}
use Rattle.dn_arc_theory.specs.State.CurveListed.{is_free}
use Rattle.dn_arc_theory.specs.State.FillCosts.{free_room}
use Rattle.dn_bundle.specs.State.Listings.{form_one_arcs}
use Rattle.dn_flow.proofs.carries.curve_share.Given as goal

-- the rest of the units is what the free arcs so far have no room for, and no arc was passed that has room for all
abbrev pub invariant-loop-i : goal.invariant-loop-i
invariant-loop-i l =
    let arcs = form_one_arcs l.curve in
    record {
      sum : (l.rest +ℤ free_room (take l.i (filter is_free arcs))) ≡ (l.units -ℤ forced_units arcs);
      some : pos 0 ≤ℤ l.rest;
      sign : (l.i ≡ 0) ⊎ (pos 0 <ℤ l.rest);
    }
