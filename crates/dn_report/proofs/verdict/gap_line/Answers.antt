use Rattle.std.proofs.Common.{arith, append_assoc}
use Rattle.std.proofs.lemmas.List.{length-append}
use Rattle.dn_report.proofs.verdict.gap_line.Goals as goal

pub returns : goal.returns
returns c =
    rw (c.newline.ensures, c.add_cost-2.ensures.text, c.add_cost.ensures.text, c.word-2.ensures)
    (rw (c.number.ensures.text, c.word.ensures, c.pair_start-line.ensures.text) (simp append_assoc))

pub word-requires : goal.word-requires
word-requires c = omega (arith, c.pair_start-line.ensures.within)

pub number-requires : goal.number-requires
number-requires c = rw (c.word.ensures, length-append) (omega (arith, c.pair_start-line.ensures.within))
