use Rattle.std.proofs.Common.{rules, arith, ◌+◌, ◌≤◌, ◌∷◌}
use Rattle.std.proofs.lemmas.List.{take_more_set}
use Rattle.dn_canon.proofs.LineLaws.{line_added, pair_then}
use Rattle.dn_canon.proofs.block.Block.arc.Goals as goal

pub returns : goal.returns
returns g c =
    let room : c.self.inside.used + 128 ≤ 8192 = search rules in
    let first = take_more_set c.self.inside.bytes c.self.inside.used 97 (omega arith) in
    line_added c.args.self.now 97 (c.args.pair.now.0 ∷ c.args.pair.now.1 ∷ g.P.Parts.numbers c.args.arc.now)
    (rw c.self.view_is at first)
    (pair_then _ c.args.pair.now.0 c.args.pair.now.1 (g.P.Parts.numbers c.args.arc.now)
    c.put_spaced-tail_end.ensures.text c.put_spaced-head_end.ensures.text c.put_parts-end.ensures.text)
    (take_more_set c.put_parts-end.new.bytes c.put_parts-end.result 10 (omega arith))
