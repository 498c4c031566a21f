use Rattle.std.proofs.Common.{◌∙◌, ap, arith}
use Rattle.std.specs.Simd.Lanes.{number_l}
use Rattle.dn_num.specs.declared.fours.TheConstants.{FOURS}
use Rattle.dn_num.proofs.EightLaws.{table_at}
use Rattle.dn_num.proofs.eight.four.Goals as goal

pub returns : goal.returns
returns c = c.word_at.ensures ∙ ap (number_l 256) (table_at c.args.number FOURS tt (omega arith))
