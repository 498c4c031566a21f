use Rattle.std.proofs.Common.{pos, refl}
use Rattle.dn_instance.proofs.CompanionLaws.{both_fit, first_stops, second_stops}
use Rattle.dn_instance.proofs.companion.check_pairs.Goals as goal

pub loop-pair-init : goal.loop-pair-init
loop-pair-init c = refl

pub returns-in-Err : goal.returns-in-Err
returns-in-Err c =
    first_stops c.args.nodes.now (λ p. p.0) (λ p. p.1) c.args.pairs.now c.loop-pair.pair-index (pos 0, pos 0)
    c.loop-pair-test.true c.loop-pair.invariant c.in-Err.fault c.in-Err.ensures

pub returns-in-Err-check_id : goal.returns-in-Err-check_id
returns-in-Err-check_id c =
    second_stops c.args.nodes.now (λ p. p.0) (λ p. p.1) c.args.pairs.now c.loop-pair.pair-index (pos 0, pos 0)
    c.loop-pair-test.true c.loop-pair.invariant c.in-Err-check_id.fault c.in_default.ensures c.in-Err-check_id.ensures

pub loop-pair-preserved : goal.loop-pair-preserved
loop-pair-preserved c =
    both_fit c.args.nodes.now (λ p. p.0) (λ p. p.1) c.args.pairs.now c.loop-pair.pair-index (pos 0, pos 0)
    c.loop-pair-test.true c.loop-pair.invariant c.in_default.ensures c.in_default-check_id.ensures
