use Rattle.std.proofs.Common.{rules, w64, Some, None}
use Rattle.std.specs.Int.RustNames.{FitsSigned}
use Rattle.std.proofs.lemmas.Int.{to_z-of_z}
use Rattle.dn_arc_theory.specs.declared.arc.Form.TheVariants.{One}
use Rattle.dn_compare.proofs.ArcPartings.{of_arcs}
use Rattle.dn_compare.proofs.difference.pair_verdict.Goals as goal

pub returns-in-Some : goal.returns-in-Some
returns-in-Some g c xs ys l r =
    let src : FitsSigned w64 c.in-Some.src = search rules in
    let dst : FitsSigned w64 c.in-Some.dst = search rules in
    simp to_z-of_z
    (of_arcs g.met.B.Bundle.laws g.met.B.Bundle.differs (g.B.Bundle.bundle.listed One) _ _ xs ys
    (Some ((c.in-Some.src, c.in-Some.dst), c.in-Some.how)) l r
    (rw (c.pairs.ensures.value, c.pairs-2.ensures.value) at c.in-Some.ensures))

pub returns-in-None : goal.returns-in-None
returns-in-None g c xs ys l r =
    of_arcs g.met.B.Bundle.laws g.met.B.Bundle.differs (g.B.Bundle.bundle.listed One) _ _ xs ys None l r
    (rw (c.pairs.ensures.value, c.pairs-2.ensures.value) at c.in-None.ensures)
