use Rattle.std.proofs.Common.{rules, pos, ◌≤ℤ◌, w64}
use Rattle.std.specs.Int.{w128}
use Rattle.std.proofs.lemmas.Int.{to_z-of_z}
use Rattle.dn_arc_theory.specs.State.Means.{IsMean}
use Rattle.dn_bundle.proofs.FixedLaws.{not_zero, none_fixed, one_fixed, two_fixed, less_fits, each_below}
use Rattle.dn_bundle.proofs.curve.Curve.spread.Goals as goal

pub returns-then-units-eq0 : goal.returns-then-units-eq0
returns-then-units-eq0 c =
    let none = none_fixed c.units-units.result c.args.self.now.cost (search rules) c.if-units-eq0.true in
    record { value = rw (← c.units-units.ensures) none; next = tt }

pub floor-each-requires : goal.floor-each-requires
floor-each-requires c =
    let sound = c.args.self.now.sound in
    let fu = to_z-of_z w64 c.units-units.result (search rules) in
    let fc = to_z-of_z w128 c.cost-cost.result (search rules) in
    let some : pos 0 ≤ℤ c.units-units.result = rw c.units-units.ensures sound.some in
    record {
      unit = rw fu (not_zero c.units-units.result (search rules) c.if-units-eq0.false some);
      mean = rw (fc, fu, c.units-units.ensures, c.cost-cost.ensures) sound.mean;
    }

pub overflow_sub-result : goal.overflow_sub-result
overflow_sub-result c =
    let fu = to_z-of_z w64 c.units-units.result (search rules) in
    let fc = to_z-of_z w128 c.cost-cost.result (search rules) in
    let some : pos 0 ≤ℤ c.units-units.result = rw c.units-units.ensures c.args.self.now.sound.some in
    less_fits c.units-units.result c.cost-cost.result c.floor-each.result.0 c.floor-each.result.1 (search rules)
    (search rules) (search rules) some c.if-units-eq0.false (rw (fc, fu) at c.floor-each.ensures)

pub returns-then-rest-eq0 : goal.returns-then-rest-eq0
returns-then-rest-eq0 c =
    let fu = to_z-of_z w64 c.units-units.result (search rules) in
    let fc = to_z-of_z w128 c.cost-cost.result (search rules) in
    let some : pos 0 ≤ℤ c.units-units.result = rw c.units-units.ensures c.args.self.now.sound.some in
    let floor = rw (fc, fu) at c.floor-each.ensures in
    let arcs =
    one_fixed c.units-units.result c.cost-cost.result c.floor-each.result.0 c.floor-each.result.1 (search rules)
    (search rules) (search rules) some c.if-units-eq0.false floor c.if-rest-eq0.true in
    record { value = rw (← c.units-units.ensures, ← c.cost-cost.ensures) arcs; next = tt }

pub returns-else-rest-eq0 : goal.returns-else-rest-eq0
returns-else-rest-eq0 c =
    let fu = to_z-of_z w64 c.units-units.result (search rules) in
    let fc = to_z-of_z w128 c.cost-cost.result (search rules) in
    let some : pos 0 ≤ℤ c.units-units.result = rw c.units-units.ensures c.args.self.now.sound.some in
    let floor = rw (fc, fu) at c.floor-each.ensures in
    let mean : IsMean c.cost-cost.result c.units-units.result =
    rw (c.units-units.ensures, c.cost-cost.ensures) c.args.self.now.sound.mean in
    let arcs =
    two_fixed c.units-units.result c.cost-cost.result c.floor-each.result.0 c.floor-each.result.1 (search rules)
    (search rules) (search rules) some c.if-units-eq0.false floor c.if-rest-eq0.false in
    let next =
    each_below c.units-units.result c.cost-cost.result c.floor-each.result.0 c.floor-each.result.1 (search rules)
    (search rules) (search rules) some c.if-units-eq0.false floor mean c.if-rest-eq0.false in
    record { value = rw (← c.units-units.ensures, ← c.cost-cost.ensures) arcs; next = next }
