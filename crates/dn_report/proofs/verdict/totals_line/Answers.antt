use Rattle.std.proofs.Common.{append_assoc}
use Rattle.dn_report.proofs.verdict.totals_line.Goals as goal

pub returns : goal.returns
returns c =
    rw (c.newline.ensures, c.number-2.ensures.text, c.number.ensures.text)
    (rw (c.word.ensures, c.pair_start-line.ensures.text) (simp append_assoc))
