use Rattle.std.proofs.Common.{◌-◌, ◌^◌, pos, ◌≤ℤ◌, take}
use Rattle.dn_arc_theory.specs.State.Bundles.{listed_of, meant}
use Rattle.dn_bundle_trait.proofs.bundle.bundle_of.Given as goal

abbrev pub invariant-loop-arc : goal.invariant-loop-arc
invariant-loop-arc g l =
    g.B.Bundle.bundle.kind.Same (listed_of (meant g.B.Bundle.bundle) l.bundle) (take l.arc-index l.arcs)
    × (g.B.Bundle.bundle.kind.capacity (take l.arc-index l.arcs) ≤ℤ pos (2 ^ 63 - 1))
