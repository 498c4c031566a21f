use Rattle.dn_answers.proofs.LoopLaws.{loop_bounds, loop_distances, loop_values}
use Rattle.dn_answers.proofs.loops.no_loops.Goals as goal

pub returns-clause-bounds : goal.returns-clause-bounds
returns-clause-bounds c = loop_bounds

pub returns-clause-distances : goal.returns-clause-distances
returns-clause-distances c = loop_distances

pub returns-clause-values : goal.returns-clause-values
returns-clause-values c = loop_values
