use Rattle.dn_answers.proofs.WalkLaws.{same_bounds, same_distances}
use Rattle.dn_answers.proofs.distances.same_distances.Goals as goal

pub returns-clause-bounds : goal.returns-clause-bounds
returns-clause-bounds c = same_bounds

pub returns-clause-distances : goal.returns-clause-distances
returns-clause-distances c = same_distances
