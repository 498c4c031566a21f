use Rattle.std.proofs.Common.{arith}
use Rattle.dn_num.proofs.CountLaws.{all_digits, some_digits, some_within}
use Rattle.dn_num.proofs.count.digits_at.Goals as goal

pub returns-then-others-eq0-clause-count : goal.returns-then-others-eq0-clause-count
returns-then-others-eq0-clause-count c = all_digits _ _ c.requires c.type_inv.bytes c.if-others-eq0.true

pub returns-else-others-eq0-clause-count : goal.returns-else-others-eq0-clause-count
returns-else-others-eq0-clause-count c = some_digits _ _ c.requires c.type_inv.bytes (omega arith)

pub returns-else-others-eq0-clause-within : goal.returns-else-others-eq0-clause-within
returns-else-others-eq0-clause-within c = some_within _ _ c.requires c.type_inv.bytes (omega arith)
