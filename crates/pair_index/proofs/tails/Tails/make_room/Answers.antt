use Rattle.std.proofs.Common.{◌+◌, ◌-◌, ◌++◌, replicate, sym, ap, ◌∙◌, subst, arith}
use Rattle.std.proofs.lemmas.List.{take_all}
use Rattle.pair_index.specs.State.Tailed.{Links}
use Rattle.pair_index.proofs.TailLaws.{links_wider}
use Rattle.pair_index.proofs.tails.Tails.make_room.Goals as goal

pub returns-in_ok-resize-clause-kept : goal.returns-in_ok-resize-clause-kept
returns-in_ok-resize-clause-kept c keys links =
    let self = c.args.self.now in
    let ok = self.heads.ok.0 in
    let short = c.if-len-tail.true in
    let more = (c.in-Some.tail + 1) - c.args.self.now.heads.len in
    let zeros = replicate more 0 in
    let whole =
    ap (λ h. h ++ zeros) (take_all (c.in-Some.tail + 1) self.heads.items (omega (arith, ok, short, c.len-2.ensures))) in
    subst (λ h. Links h c.reserve.new.self.items keys) (sym (c.in_ok-resize.ensures.items ∙ whole))
    (subst (λ n. Links (self.heads.items ++ zeros) n keys) (sym c.reserve.ensures.items)
    (links_wider self.heads.items self.next.items keys more links))

pub returns-in_default-clause-kept : goal.returns-in_default-clause-kept
returns-in_default-clause-kept c keys links = links

pub returns-then-len-ge-MOST_LINKED-clause-kept : goal.returns-then-len-ge-MOST_LINKED-clause-kept
returns-then-len-ge-MOST_LINKED-clause-kept c keys links = links

pub returns-in_err-reserve-clause-kept : goal.returns-in_err-reserve-clause-kept
returns-in_err-reserve-clause-kept c keys links = rw c.reserve.ensures.items links

pub returns-then-saturating_mul-tail-clause-kept : goal.returns-then-saturating_mul-tail-clause-kept
returns-then-saturating_mul-tail-clause-kept c keys links = rw c.reserve.ensures.items links

pub returns-else-len-tail-clause-kept : goal.returns-else-len-tail-clause-kept
returns-else-len-tail-clause-kept c keys links = rw c.reserve.ensures.items links
