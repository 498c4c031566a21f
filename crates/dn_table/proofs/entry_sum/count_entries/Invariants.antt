use Rattle.std.proofs.Common.{◌≡◌, ◌+◌, drop}
use Rattle.dn_arc_theory.specs.declared.arc.Form.TheVariants.{One}
use Rattle.dn_table.specs.State.ListedEntries.{entries_listed}
use Rattle.dn_table.proofs.entry_sum.count_entries.Given as goal

-- the count so far and the entries of the remaining bundles sum to the total
abbrev pub invariant-loop-bundle : goal.invariant-loop-bundle
invariant-loop-bundle g l =
    let sizes = g.B.Bundle.bundle.sizes in
    let listed = g.B.Bundle.bundle.listed One in
    l.all + entries_listed (λ b. sizes.entries (listed b)) (drop l.bundle-index l.entries) ≡ entries_listed
    (λ b. sizes.entries (listed b)) l.entries
