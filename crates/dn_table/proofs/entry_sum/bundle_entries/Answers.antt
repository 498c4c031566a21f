use Rattle.std.proofs.Common.{◌≤◌, ◌^◌, ◌∙◌, arith}
use Rattle.dn_arc_theory.specs.declared.arc.Form.TheVariants.{One}
use Rattle.std.specs.Map.{keys_of}
use Rattle.dn_table.specs.GraphEntries.{graph_entries}
use Rattle.dn_table.proofs.EntryLaws.{table_entries, once_apart}
use Rattle.dn_table.proofs.entry_sum.bundle_entries.Goals as goal

pub returns-in-Some : goal.returns-in-Some
returns-in-Some g c apart arcs lists are few =
    c.in-Some.ensures
    ∙ table_entries g.B.Bundle.bundle.kind g.B.Bundle.bundle.sizes g.met.B.Bundle.laws g.met.B.Bundle.sized
    (g.B.Bundle.bundle.listed One) c.args.entries.now arcs (once_apart (keys_of c.args.entries.now) apart) lists are

pub returns-in-None : goal.returns-in-None
returns-in-None g c apart arcs lists are few =
    let all =
    table_entries g.B.Bundle.bundle.kind g.B.Bundle.bundle.sizes g.met.B.Bundle.laws g.met.B.Bundle.sized
    (g.B.Bundle.bundle.listed One) c.args.entries.now arcs (once_apart (keys_of c.args.entries.now) apart) lists are in
    let over : 2 ^ 64 ≤ graph_entries g.B.Bundle.bundle.sizes.entries arcs = rw all at c.in-None.ensures in
    absurd (omega arith)
