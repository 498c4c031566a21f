use Rattle.std.proofs.Common.{arith, append_assoc}
use Rattle.std.proofs.lemmas.List.{length-append}
use Rattle.dn_report.proofs.verdict.lengths_line.Goals as goal

pub returns : goal.returns
returns c =
    rw (c.newline.ensures, c.add_number-2.ensures.text, c.add_number.ensures.text)
    (rw (c.word.ensures, c.pair_start-line.ensures.text) (simp append_assoc))

pub word-requires : goal.word-requires
word-requires c = omega (arith, c.pair_start-line.ensures.within)

pub add_number-requires : goal.add_number-requires
add_number-requires c = rw (c.word.ensures, length-append) (omega (arith, c.pair_start-line.ensures.within))
