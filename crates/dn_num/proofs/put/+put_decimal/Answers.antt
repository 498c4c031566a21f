use Rattle.std.proofs.Common.{arith, ◌/◌, length, ap, ◌∙◌, append_assoc, length-append}
use Rattle.std.proofs.lemmas.Fmt.{length-decimal-le}
use Rattle.dn_num.proofs.DigitLaws.{long_decimal}
use Rattle.dn_num.proofs.put.+put_decimal.Goals as goal

pub put_eight-requires-clause-room : goal.put_eight-requires-clause-room
put_eight-requires-clause-room t c =
    omega (arith, length-decimal-le 12 (c.args.number / 100000000) (omega arith) (omega arith) (omega arith))

pub returns-clause-text : goal.returns-clause-text
returns-clause-text t c =
    c.put_eight.ensures.text
    ∙ rw (c.put_decimal-next.ensures.text, append_assoc, long_decimal c.args.number (omega arith) (omega arith))

pub returns-clause-end : goal.returns-clause-end
returns-clause-end t c =
    omega (arith, simp length-append at (ap length (long_decimal c.args.number (omega arith) (omega arith))))
