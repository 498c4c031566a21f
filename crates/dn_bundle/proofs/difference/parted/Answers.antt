use Rattle.std.proofs.Common.{rules, ◌∙◌}
use Rattle.dn_bundle.proofs.GapLaws.{part_now, costs_part, left_part_most, left_part, right_part_most, right_part}
use Rattle.dn_bundle.proofs.difference.parted.Goals as goal

pub further-requires : goal.further-requires
further-requires c =
    record {
      some = c.requires.some;
      most = part_now c.args.amount.now c.args.cost.now c.args.l c.args.r c.requires;
      mean = c.requires.mean;
    }

pub past_step-requires : goal.past_step-requires
past_step-requires c =
    record {
      some = c.requires.some;
      room = c.requires.left_room;
      most =
          left_part_most c.args.amount.now c.args.cost.now c.args.l c.args.r c.requires (search rules)
          (search rules) c.if-l-r.false c.if-l-r-2.true;
      mean = c.requires.mean;
    }

pub past_step-requires-else-l-r-2 : goal.past_step-requires-else-l-r-2
past_step-requires-else-l-r-2 c =
    record {
      some = c.requires.some;
      room = c.requires.right_room;
      most =
          right_part_most c.args.amount.now c.args.cost.now c.args.l c.args.r c.requires (search rules)
          (search rules) c.if-l-r.false c.if-l-r-2.false;
      mean = c.requires.mean;
    }

pub returns-then-l-r : goal.returns-then-l-r
returns-then-l-r c =
    c.further.ensures
    ∙ costs_part c.args.amount.now c.args.cost.now c.args.l c.args.r c.requires c.args.left c.args.right c.if-l-r.true

pub returns-then-l-r-2 : goal.returns-then-l-r-2
returns-then-l-r-2 c =
    c.past_step.ensures ∙ left_part c.args.amount.now c.args.cost.now c.args.l c.args.r c.requires (search rules)
    (search rules) c.if-l-r.false c.if-l-r-2.true c.args.left c.args.right

pub returns-else-l-r-2 : goal.returns-else-l-r-2
returns-else-l-r-2 c =
    c.past_step-else-l-r-2.ensures ∙ right_part c.args.amount.now c.args.cost.now c.args.l c.args.r c.requires
    (search rules) (search rules) c.if-l-r.false c.if-l-r-2.false c.args.left c.args.right
