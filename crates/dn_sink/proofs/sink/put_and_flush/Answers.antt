use Rattle.std.proofs.Common.{rules}
use Rattle.dn_sink.proofs.sink.put_and_flush.Goals as goal

pub returns-clause-puts : goal.returns-clause-puts
returns-clause-puts g c = search rules

pub returns-clause-flushed : goal.returns-clause-flushed
returns-clause-flushed g c = search rules

pub returns-in_err-put_all-clause-puts : goal.returns-in_err-put_all-clause-puts
returns-in_err-put_all-clause-puts g c = search rules
