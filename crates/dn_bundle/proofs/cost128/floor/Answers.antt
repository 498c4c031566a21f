use Rattle.std.proofs.Common.{rules}
use Rattle.dn_bundle.proofs.Cost128Laws.{widens, divides, each_narrows, rest_narrows, floor_is, small_floor_is}
use Rattle.dn_bundle.proofs.cost128.floor.Goals as goal

pub overflow_cast-units : goal.overflow_cast-units
overflow_cast-units c = widens c.args.units.now

pub div_euclid-each-requires : goal.div_euclid-each-requires
div_euclid-each-requires c = let d = divides c.args.units.now (search rules) c.requires.unit in
    record { nonzero = d.0; no_overflow = λ e f. d.1 e }

pub overflow_cast-each : goal.overflow_cast-each
overflow_cast-each c =
    each_narrows c.args.cost.now c.args.units.now c.div_euclid-each.result (search rules)
    (search rules) c.requires.unit c.requires.mean c.div_euclid-each.ensures

pub overflow_cast-units-2 : goal.overflow_cast-units-2
overflow_cast-units-2 c = widens c.args.units.now

pub rem_euclid-rest-requires : goal.rem_euclid-rest-requires
rem_euclid-rest-requires c = let d = divides c.args.units.now (search rules) c.requires.unit in
    record { nonzero = d.0; no_overflow = λ e f. d.1 e }

pub overflow_cast-rest : goal.overflow_cast-rest
overflow_cast-rest c = rest_narrows c.args.cost.now c.args.units.now c.div_euclid-each.result (search rules)
    (search rules) c.requires.unit c.requires.mean c.div_euclid-each.ensures c.rem_euclid-rest.result
    c.rem_euclid-rest.ensures.value

pub returns : goal.returns
returns c = floor_is c.args.cost.now c.args.units.now c.div_euclid-each.result (search rules) (search rules)
    c.requires.unit c.requires.mean c.div_euclid-each.ensures c.rem_euclid-rest.result c.rem_euclid-rest.ensures.value

pub returns-in-Ok : goal.returns-in-Ok
returns-in-Ok c =
    small_floor_is c.args.cost.now c.args.units.now c.in-Ok.cost c.div_euclid.result c.rem_euclid.result (search rules)
    (search rules) c.requires.unit c.requires.mean c.in-Ok.ensures.0 c.in-Ok.ensures.1 c.div_euclid.ensures
    c.rem_euclid.ensures.value
