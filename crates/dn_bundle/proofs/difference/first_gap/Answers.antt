use Rattle.std.proofs.Common.{rules, Some, ap, ◌∙◌}
use Rattle.dn_bundle.proofs.GapLaws.{entry_is, walk_start, shorter, left_alone, right_alone, no_more, left_now, left_cost_fits, right_now, are_part, gap_found, same_walk, sum_fits}
use Rattle.dn_bundle.proofs.difference.first_gap.Goals as goal

pub loop-l-init : goal.loop-l-init
loop-l-init c = walk_start c.args.amount c.args.cost c.ranges.amount c.ranges.cost c.args.left c.args.right c.requires

pub further-requires : goal.further-requires
further-requires c = let walks = c.loop-l.invariant.walks in
    record { some = walks.some; most = left_now _ _ _ _ _ _ walks c.in-Some.ensures.steps; mean = walks.mean }

pub returns-in_default-next : goal.returns-in_default-next
returns-in_default-next c =
    ap Some c.further.ensures ∙ left_alone _ _ _ _ _ _ c.in-Some.ensures.steps c.in_default-next.ensures.steps.0
    ∙ c.loop-l.invariant.same
    ∙ entry_is c.args.amount c.args.cost c.ranges.amount c.ranges.cost c.args.left c.args.right

pub parted-requires : goal.parted-requires
parted-requires c =
    are_part _ _ _ _ _ _ _ _ c.loop-l.invariant.walks c.in-Some.ensures.steps c.in-Some-next.ensures.steps
    (search rules)

pub returns-then-ne : goal.returns-then-ne
returns-then-ne c =
    gap_found _ _ _ _ _ _ _ _ _ _ _ _ c.loop-l.invariant c.in-Some.ensures.steps c.in-Some-next.ensures.steps
    (search rules) c.next-then-ne.result c.next-then-ne-2.result _ _ c.next-then-ne.ensures.steps
    c.next-then-ne-2.ensures.steps c.parted.result c.parted.ensures
    ∙ entry_is c.args.amount c.args.cost c.ranges.amount c.ranges.cost c.args.left c.args.right

pub more_cost-cost-requires : goal.more_cost-cost-requires
more_cost-cost-requires c = left_cost_fits _ _ _ _ _ _ c.loop-l.invariant.walks c.in-Some.ensures.steps (search rules)

pub overflow_add-amount : goal.overflow_add-amount
overflow_add-amount c =
    sum_fits _ _ _ _ _ _ _ _ _ _ _ _ c.loop-l.invariant c.in-Some.ensures.steps c.in-Some-next.ensures.steps
    (search rules)

pub loop-l-preserved : goal.loop-l-preserved
loop-l-preserved c =
    same_walk _ _ _ _ _ _ _ _ _ _ _ _ c.loop-l.invariant c.in-Some.ensures.steps c.in-Some-next.ensures.steps
    (search rules) (search rules) (search rules) c.more_cost-cost.result (search rules) c.more_cost-cost.ensures

pub loop-l-smaller : goal.loop-l-smaller
loop-l-smaller c = shorter _ _ _ c.in-Some.ensures.steps

pub further-requires-in-Some-next-2 : goal.further-requires-in-Some-next-2
further-requires-in-Some-next-2 c = let walks = c.loop-l.invariant.walks in
    record { some = walks.some; most = right_now _ _ _ _ _ _ walks c.in-Some-next-2.ensures.steps; mean = walks.mean }

pub returns-in-Some-next-2 : goal.returns-in-Some-next-2
returns-in-Some-next-2 c =
    ap Some c.further-in-Some-next-2.ensures
    ∙ right_alone _ _ _ _ _ _ c.in_default.ensures.steps.0 c.in-Some-next-2.ensures.steps ∙ c.loop-l.invariant.same
    ∙ entry_is c.args.amount c.args.cost c.ranges.amount c.ranges.cost c.args.left c.args.right

pub returns-in-None : goal.returns-in-None
returns-in-None c =
    no_more _ _ _ _ c.in_default.ensures.steps.0 c.in-None.ensures.steps.0 ∙ c.loop-l.invariant.same
    ∙ entry_is c.args.amount c.args.cost c.ranges.amount c.ranges.cost c.args.left c.args.right
