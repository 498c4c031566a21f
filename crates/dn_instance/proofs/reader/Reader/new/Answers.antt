use Rattle.std.proofs.Common.{rules}
use Rattle.dn_instance.proofs.reader.Reader.new.Goals as goal

pub returns-clause-stands : goal.returns-clause-stands
returns-clause-stands c = search rules

pub returns-clause-fine : goal.returns-clause-fine
returns-clause-fine c = search rules
