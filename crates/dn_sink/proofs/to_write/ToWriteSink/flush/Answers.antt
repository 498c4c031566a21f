use Rattle.std.proofs.Common.{rules}
use Rattle.dn_sink.proofs.to_write.ToWriteSink.flush.Goals as goal

pub returns-then-is_err-clause-flush : goal.returns-then-is_err-clause-flush
returns-then-is_err-clause-flush g c = search rules
