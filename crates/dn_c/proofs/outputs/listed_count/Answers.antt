use Rattle.std.proofs.Common.{◌^◌, subst}
use Rattle.dn_table.specs.State.Tables.{CountsBelow}
use Rattle.dn_canon.proofs.ListedLaws.{count_listed}
use Rattle.dn_c.proofs.outputs.listed_count.Goals as goal

pub returns : goal.returns
returns g c = (
  c.arc_count.result,
  subst (λ n. CountsBelow (2 ^ 64) n c.arc_count.result)
      (count_listed (g.B.Bundle.bundle.listed c.args.form) c.args.table.now) c.arc_count.ensures.count,
  c.count_if.ensures,
)
