use Rattle.std.proofs.Common.{rules}
use Rattle.dn_sink.proofs.to_write.ToWriteSink.put.Goals as goal

pub returns-then-not-is_empty-clause-unflushed : goal.returns-then-not-is_empty-clause-unflushed
returns-then-not-is_empty-clause-unflushed g c = search rules

pub returns-else-n-eq0-clause-unflushed : goal.returns-else-n-eq0-clause-unflushed
returns-else-n-eq0-clause-unflushed g c = search rules
