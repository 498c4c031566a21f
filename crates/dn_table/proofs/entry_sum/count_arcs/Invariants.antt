use Rattle.std.proofs.Common.{◌≡◌, ◌+◌, drop, length}
use Rattle.dn_table.specs.State.ListedEntries.{entries_listed}
use Rattle.dn_table.proofs.entry_sum.count_arcs.Given as goal

-- the count so far and the arcs of the remaining bundles sum to the total
abbrev pub invariant-loop-bundle : goal.invariant-loop-bundle
invariant-loop-bundle g l =
    let listed = g.B.Bundle.bundle.listed l.form in
    l.all + entries_listed (λ b. length (listed b)) (drop l.bundle-index l.entries) ≡ entries_listed
    (λ b. length (listed b)) l.entries
