use Rattle.std.proofs.Common.{rules}
use Rattle.dn_sink.proofs.to_write.ToWrite.new.Goals as goal

pub returns-clause-fine : goal.returns-clause-fine
returns-clause-fine g c = search rules

pub returns-clause-unflushed : goal.returns-clause-unflushed
returns-clause-unflushed g c = search rules
