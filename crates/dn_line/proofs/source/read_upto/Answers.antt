use Rattle.std.proofs.Common.{rules}
use Rattle.dn_line.proofs.SourceLaws.{reads_front}
use Rattle.dn_line.proofs.source.read_upto.Goals as goal

pub returns-clause-bytes : goal.returns-clause-bytes
returns-clause-bytes g c =
    reads_front _ _ c.read.new.buf _ c.read.result c.read.ensures.bound (search rules) c.read.ensures.bytes
