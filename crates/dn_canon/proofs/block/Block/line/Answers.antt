use Rattle.std.proofs.Common.{rules, arith, ◌+◌, ◌≤◌}
use Rattle.std.proofs.lemmas.List.{take_more_set}
use Rattle.dn_canon.proofs.LineLaws.{line_added}
use Rattle.dn_canon.proofs.block.Block.line.Goals as goal

pub returns : goal.returns
returns c =
    let room : c.self.inside.used + 128 ≤ 8192 = search rules in
    let first = take_more_set c.self.inside.bytes c.self.inside.used c.args.letter (omega arith) in
    line_added c.args.self.now c.args.letter c.args.numbers.now (rw c.self.view_is at first)
    c.put_numbers-end.ensures.text (take_more_set c.put_numbers-end.new.bytes c.put_numbers-end.result 10 (omega arith))
