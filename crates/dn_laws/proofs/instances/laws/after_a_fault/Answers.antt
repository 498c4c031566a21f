use Rattle.std.proofs.Common.{◌++◌, append_assoc}
use Rattle.dn_instance.specs.Readers.{ended}
use Rattle.dn_instance.proofs.FirstFaults.{first_on}
use Rattle.dn_instance.proofs.PieceSteps.{ended_more, lines_more}
use Rattle.dn_laws.proofs.instances.laws.after_a_fault.Goals as goal

pub returns : goal.returns
returns c t u n d f =
    let closed = ended_more t u in
    let all = lines_more (t ++ u) in
    rw (all.whole, closed.whole, append_assoc (ended t) closed.rest all.rest)
    (first_on (ended t) (closed.rest ++ all.rest) n d f)
