use Rattle.std.proofs.Common.{map, sym, ap, ◌∙◌}
use Rattle.std.proofs.lemmas.List.{drop-map}
use Rattle.dn_c.specs.State.Items.{id_item, pair_item, left_items}
use Rattle.dn_c.proofs.items.ItemsLeft.of.Goals as goal

pub returns-in-Ss-clause-left : goal.returns-in-Ss-clause-left
returns-in-Ss-clause-left c =
    let n = c.args.cursor.now.pairs in
    ap (map id_item) c.list_after.ensures.left ∙ sym (drop-map id_item n c.in-Ss.items.now)
    ∙ ap (λ k. left_items k c.args.cursor.now) c.in-Ss.ensures

pub returns-in-P2p-clause-left : goal.returns-in-P2p-clause-left
returns-in-P2p-clause-left c =
    let n = c.args.cursor.now.pairs in
    ap (map pair_item) c.list_after-in-P2p.ensures.left ∙ sym (drop-map pair_item n c.in-P2p.items.now)
    ∙ ap (λ k. left_items k c.args.cursor.now) c.in-P2p.ensures
