use Rattle.std.proofs.Common.{◌∙◌}
use Rattle.std.proofs.lemmas.List.{get_or_read}
use Rattle.pair_index.proofs.TailLaws.{first_there, none_there, none_below}
use Rattle.pair_index.proofs.tails.Tails.first_of.Goals as goal

pub returns-then-tail-len : goal.returns-then-tail-len
returns-then-tail-len c keys links =
    let self = c.args.self.now in
    let inside = rw (c.len.ensures ∙ self.heads.ok.0) at c.if-tail-len.true in
    first_there self.heads.items self.next.items keys links c.in-Some.tail c.args.pair.now c.index.result.now
    c.in-Some.ensures inside
    (get_or_read self.heads.items c.in-Some.tail c.index.result.now inside c.index.ensures 0)

pub returns-else-tail-len : goal.returns-else-tail-len
returns-else-tail-len c keys links =
    let self = c.args.self.now in
    none_there self.heads.items self.next.items keys links c.in-Some.tail c.args.pair.now c.in-Some.ensures
    (rw (c.len.ensures ∙ self.heads.ok.0) at c.if-tail-len.false)

pub returns-in-None : goal.returns-in-None
returns-in-None c keys links =
    let self = c.args.self.now in
    none_below self.heads.items self.next.items keys links c.args.pair.now c.in-None.ensures
