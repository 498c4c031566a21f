use Rattle.std.proofs.Common.{rules}
use Rattle.dn_num.proofs.number_reader.NumberReader.new.Goals as goal

pub returns : goal.returns
returns c = search rules
