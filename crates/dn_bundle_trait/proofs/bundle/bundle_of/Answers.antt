use Rattle.std.proofs.Common.{[], arith}
use Rattle.std.proofs.lemmas.List.{take_all}
use Rattle.dn_arc_theory.specs.State.Bundles.{listed_of, meant}
use Rattle.dn_bundle_trait.proofs.BundleLaws.{none_cap, next_arc, next_same, next_fits, too_much, listed_arcs}
use Rattle.dn_bundle_trait.proofs.bundle.bundle_of.Goals as goal

pub loop-arc-init : goal.loop-arc-init
loop-arc-init g c = (g.met.B.Bundle.laws.meaning.same_refl [], none_cap g.B.Bundle.bundle.kind g.met.B.Bundle.laws)

pub add_to-requires : goal.add_to-requires
add_to-requires g c = next_arc g.B.Bundle.bundle.kind g.met.B.Bundle.laws c.args.arcs.now c.loop-arc.arc-index
    c.arc-item.result c.requires c.loop-arc-test.true c.arc-item.is

pub returns-in-Err-clause-sum : goal.returns-in-Err-clause-sum
returns-in-Err-clause-sum g c = λ e.
    let bundle = g.B.Bundle.bundle in
    let laws = g.met.B.Bundle.laws in
    let listed = listed_of (meant bundle) c.loop-arc.bundle in
    too_much bundle.kind laws c.args.arcs.now listed c.loop-arc.arc-index c.arc-item.result c.requires
    c.loop-arc-test.true c.arc-item.is (listed_arcs bundle laws g.met.B.Bundle.canonical c.loop-arc.bundle)
    c.loop-arc.invariant.0 (c.in-Err.ensures.sum.0 cc)

pub loop-arc-preserved : goal.loop-arc-preserved
loop-arc-preserved g c =
    let bundle = g.B.Bundle.bundle in
    let laws = g.met.B.Bundle.laws in
    let listed = listed_of (meant bundle) c.loop-arc.bundle in
    let arcs = listed_arcs bundle laws g.met.B.Bundle.canonical c.loop-arc.bundle in (
      next_same bundle.kind laws c.args.arcs.now listed c.loop-arc.arc-index c.arc-item.result c.requires
          c.loop-arc-test.true c.arc-item.is arcs c.loop-arc.invariant.0 _ c.in_default.ensures.ok,
      next_fits bundle.kind laws c.args.arcs.now listed c.loop-arc.arc-index c.arc-item.result c.requires
          c.loop-arc-test.true c.arc-item.is arcs c.loop-arc.invariant.0
          (λ m. let e = c.in_default.ensures.sum.1 m in cc),
    )

pub loop-arc-smaller : goal.loop-arc-smaller
loop-arc-smaller g c = omega (arith, c.loop-arc-test.true)

pub returns-clause-ok : goal.returns-clause-ok
returns-clause-ok g c =
    rw (take_all c.loop-arc.arc-index c.args.arcs.now c.loop-arc-test.false) at c.loop-arc.invariant.0

pub returns-clause-fits : goal.returns-clause-fits
returns-clause-fits g c =
    rw (take_all c.loop-arc.arc-index c.args.arcs.now c.loop-arc-test.false) at c.loop-arc.invariant.1
