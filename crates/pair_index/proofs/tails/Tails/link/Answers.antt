use Rattle.std.proofs.Common.{◌≡◌, suc, ◌+◌, ◌-◌, ◌<◌, length, ap, ◌∙◌, arith}
use Rattle.std.specs.Map.{keys_of}
use Rattle.pair_index.proofs.SpliceLaws.{links_more, spliced_first, spliced_after, before_inside}
use Rattle.pair_index.proofs.tails.Tails.link.Goals as goal

pub returns-then-spot-eq0 : goal.returns-then-spot-eq0
returns-then-spot-eq0 g c =
    let self = c.args.self.now in
    let keys = keys_of c.args.entries.now in
    let room = c.requires.room in
    let spot = c.spot-spot.result in
    let one : c.len.result + 1 ≡ suc (length keys) =
    omega (arith, c.len.ensures ∙ self.next.ok.0 ∙ c.requires.linked.same) in
    let tops = c.set_first.ensures.heads room.tail room.is room.known in
    let nexts = ap (λ v. v.items) c.set_first.ensures.next ∙ c.push_reserved.ensures.items in
    rw tops
    (rw nexts (links_more self.heads.items _ self.next.items _ keys c.args.pair.now room.tail spot.before spot.after
    (c.len.result + 1) c.requires.linked c.requires.fresh
    c.spot-spot.ensures.sought c.spot-spot.ensures.stops room.is room.known one
    (spliced_first self.heads.items self.next.items room.tail spot.before spot.after
    (c.len.result + 1) room.known c.if-spot-eq0.true)))

pub returns-else-spot-eq0 : goal.returns-else-spot-eq0
returns-else-spot-eq0 g c =
    let self = c.args.self.now in
    let keys = keys_of c.args.entries.now in
    let room = c.requires.room in
    let spot = c.spot-spot.result in
    let one : c.len.result + 1 ≡ suc (length keys) =
    omega (arith, c.len.ensures ∙ self.next.ok.0 ∙ c.requires.linked.same) in
    let inside : spot.before - 1 < length self.next.items =
    rw c.requires.linked.same
    (before_inside keys c.args.pair.now spot.before spot.after c.if-spot-eq0.false c.spot-spot.ensures.sought) in
    rw c.push_reserved.ensures.items
    (links_more self.heads.items _ self.next.items _ keys c.args.pair.now room.tail spot.before spot.after
    (c.len.result + 1) c.requires.linked c.requires.fresh
    c.spot-spot.ensures.sought c.spot-spot.ensures.stops room.is room.known one
    (spliced_after self.heads.items self.next.items room.tail spot.before spot.after
    (c.len.result + 1) c.if-spot-eq0.false inside))
