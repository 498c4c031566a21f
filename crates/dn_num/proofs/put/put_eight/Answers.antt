use Rattle.std.proofs.Common.{arith}
use Rattle.dn_num.specs.State.Digits.{codes_of, eight_digits}
use Rattle.dn_num.proofs.DigitLaws.{codes_small, eight_small}
use Rattle.dn_num.proofs.put.put_eight.Goals as goal

pub returns-clause-text : goal.returns-clause-text
returns-clause-text c =
    let small = eight_small c.args.number c.requires.few in
    c.put_word.ensures (codes_of (eight_digits c.args.number)) (omega arith)
    (codes_small (eight_digits c.args.number) small)
    c.codes.ensures
