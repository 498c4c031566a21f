use Rattle.std.proofs.Common.{◌<◌, ◌^◌, length, rules, w64}
use Rattle.std.proofs.lemmas.Int.{to_z_pos}
use Rattle.dn_nodes.proofs.AfterLaws.{left_after, min_is}
use Rattle.dn_nodes.proofs.walk.LinksIter.after.Goals as goal

pub returns : goal.returns
returns c =
    let first = c.min-first.result in
    let links = c.args.links.now in
    let small : first < 2 ^ 63 = search rules in
    let left =
    left_after links c.args.above.now.entries c.range.result c.args.node.now c.place_after.result first
    c.place_after.ensures.below c.place_after.ensures.above
    (min_is c.place_after.result (length links) first c.min-first.ensures) (c.range.ensures.between tt) in
    rw (to_z_pos w64 first small, c.split_at.ensures.back) left
