use Rattle.std.proofs.Common.{ap, arith, ◌∙◌}
use Rattle.std.proofs.lemmas.Grind.{common_steps}
use Rattle.dn_c.specs.State.Items.{left_items, items_left}
use Rattle.dn_c.proofs.ItemLaws.{items_step}
use Rattle.dn_c.proofs.items.ItemsLeft.put.Goals as goal

pub loop-at-preserved : goal.loop-at-preserved
loop-at-preserved c = record {
  copied = grind (arith, common_steps);
  kept = grind (arith, common_steps);
  behind = λ contents listed left.
      ap (left_items contents) c.behind.ensures
      ∙ items_step contents c.loop-at.cursor c.in-Some.item (items_left c.next.new.self) listed
      (c.loop-at.invariant.behind contents listed left ∙ c.in-Some.ensures);
}
