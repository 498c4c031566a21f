use Rattle.std.proofs.Common.{◌≡◌, ◌++◌, take, length}
use Rattle.dn_instance.specs.State.Helds.{Contents}
use Rattle.dn_c.specs.State.Items.{items_left, left_items, IsListed}
use Rattle.dn_c.proofs.items.ItemsLeft.put.Given as goal

abbrev pub invariant-loop-at : goal.invariant-loop-at
invariant-loop-at l = record {
  copied : take l.at l.out ++ items_left l.self ≡ items_left l.fn.self;
  kept : length l.out ≡ l.room;
  behind : (contents : Contents) → IsListed contents → items_left l.fn.self ≡ left_items contents l.fn.cursor
      → left_items contents l.cursor ≡ items_left l.self;
}
