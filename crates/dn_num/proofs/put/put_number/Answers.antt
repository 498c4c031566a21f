use Rattle.std.proofs.Common.{rules, arith}
use Rattle.dn_num.proofs.ShortestLaws.{signed_short}
use Rattle.dn_num.proofs.put.put_number.Goals as goal

pub returns-else-number-ge0-clause-within : goal.returns-else-number-ge0-clause-within
returns-else-number-ge0-clause-within c =
    omega (arith, signed_short c.args.number.now (search rules))
