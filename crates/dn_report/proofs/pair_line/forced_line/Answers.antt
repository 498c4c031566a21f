use Rattle.std.proofs.Common.{append_assoc}
use Rattle.dn_report.proofs.pair_line.forced_line.Goals as goal

pub returns : goal.returns
returns c =
    rw (c.newline.ensures, c.count.ensures.text, c.word-3.ensures, c.wide_number.ensures.text)
    (rw (c.word-2.ensures, c.number.ensures.text, c.word.ensures, c.begin_line.ensures.text) (simp append_assoc))
