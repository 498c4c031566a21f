use Rattle.std.proofs.Common.{arith}
use Rattle.dn_num.specs.State.Digits.{eight_digits}
use Rattle.dn_num.proofs.DigitLaws.{eight_small, zeros_few, short_put}
use Rattle.dn_num.proofs.put.put_short.Goals as goal

pub overflow_mul-zeros : goal.overflow_mul-zeros
overflow_mul-zeros c =
    let small = eight_small c.args.number c.requires.few in
    let values = c.digits.ensures (eight_digits c.args.number) (omega arith) small c.codes-codes.ensures in
    let few = zeros_few c.args.number _ _ c.requires.few values c.zeros-zeros.ensures in record { fits = omega arith }

pub overflow_shr-codes : goal.overflow_shr-codes
overflow_shr-codes c =
    let small = eight_small c.args.number c.requires.few in
    let values = c.digits.ensures (eight_digits c.args.number) (omega arith) small c.codes-codes.ensures in
    let few = zeros_few c.args.number _ _ c.requires.few values c.zeros-zeros.ensures in omega arith

pub overflow_sub-result : goal.overflow_sub-result
overflow_sub-result c =
    let small = eight_small c.args.number c.requires.few in
    let values = c.digits.ensures (eight_digits c.args.number) (omega arith) small c.codes-codes.ensures in
    let few = zeros_few c.args.number _ _ c.requires.few values c.zeros-zeros.ensures in omega arith

pub returns : goal.returns
returns c =
    let small = eight_small c.args.number c.requires.few in
    let values = c.digits.ensures (eight_digits c.args.number) (omega arith) small c.codes-codes.ensures in
    let put =
    short_put c.args.at c.zeros-zeros.result c.codes-codes.result c.args.number _ _ c.requires.few
    (c.zeros-zeros.ensures _ _ _ _ _ _ _ _ small values) c.codes-codes.ensures c.put_word.ensures in
    let few = zeros_few c.args.number _ _ c.requires.few values c.zeros-zeros.ensures in
    record { text = put.text; end = put.end; within = omega arith }
