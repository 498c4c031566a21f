use Rattle.dn_answers.proofs.WalkLaws.{alike_walk}
use Rattle.dn_answers.proofs.distances.same_walks.Goals as goal

pub returns : goal.returns
returns c = alike_walk
