use Rattle.std.proofs.Common.{rules}
use Rattle.std.specs.List.Sorted.{IsStrictlySortedBy}
use Rattle.dn_laws.proofs.instances.laws.ranks.Goals as goal

pub returns : goal.returns
unfolding IsStrictlySortedBy
returns c = λ n before items ws. search rules
