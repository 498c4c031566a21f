use Rattle.std.proofs.Common.{ap, ◌∙◌}
use Rattle.std.specs.Map.{lookup}
use Rattle.std.proofs.lemmas.List.{with_items_is}
use Rattle.pair_index.proofs.SortLaws.{lookups_still}
use Rattle.dn_arc_theory.specs.Pairs.{same_pair}
use Rattle.dn_table.proofs.table_so_far.TableSoFar.end.Goals as goal

pub returns-clause-kept : goal.returns-clause-kept
returns-clause-kept g c pair =
    let fs = c.sort.new.entries in
    let now = with_items_is c.self.inside.entries fs (c.sort.auto.entries ∙ c.deref_mut.ensures.len) in
    ap (lookup (same_pair pair)) (c.of.ensures ∙ now)
    ∙ lookups_still c.self.inside.entries.items fs (rw c.deref_mut.ensures.value at c.sort.ensures.moved)
    c.self.invariant.apart pair
    ∙ ap (lookup (same_pair pair)) c.self.view_is
