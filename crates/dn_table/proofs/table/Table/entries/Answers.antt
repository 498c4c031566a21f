use Rattle.std.proofs.Common.{◌∙◌}
use Rattle.std.specs.Map.{keys_of}
use Rattle.std.proofs.lemmas.Map.Keys.{IsDistinct-from_sorted}
use Rattle.dn_arc_theory.specs.Pairs.{pair_cmp}
use Rattle.dn_table.proofs.table.Table.entries.Goals as goal

pub returns : goal.returns
returns g c arcs lists are few =
    c.bundle_entries.ensures
    (rw c.deref.ensures.value
    (IsDistinct-from_sorted pair_cmp (keys_of c.self.inside.entries.items) c.self.invariant)) arcs
    (rw (c.deref.ensures.value ∙ c.self.view_is) lists) are few
