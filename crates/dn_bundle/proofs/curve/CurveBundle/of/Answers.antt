use Rattle.std.proofs.Common.{[], ◌∷◌, ap, ◌∙◌, sym, subst, rules, of_z, w64, FitsSigned}
use Rattle.dn_arc_theory.specs.declared.arc.Form.TheVariants.{One}
use Rattle.dn_arc_theory.specs.State.CurveListed.{listed}
use Rattle.dn_arc_theory.proofs.CostKindLaws.{cost_kind}
use Rattle.dn_bundle.proofs.CurveLaws.{nothing_is}
use Rattle.dn_bundle.proofs.curve.CurveBundle.of.Goals as goal

pub returns-then-total-eq0-clause-ok : goal.returns-then-total-eq0-clause-ok
returns-then-total-eq0-clause-ok c =
    let new = c.grow.new.self in
    let arcs = listed One new.units new.cost new.steps in
    let nothing = nothing_is new.units new.cost new.total new.steps new.sound
    (subst (FitsSigned w64) c.total.ensures (search rules)) in
    let none = nothing.0 (ap (of_z w64) (sym c.total.ensures) ∙ c.if-total-eq0.true) in (
      cost_kind.meaning.same_trans [] arcs (c.args.arc ∷ []) (cost_kind.meaning.same_sym arcs [] none)
          c.in_ok-grow.ensures.ok,
      tt,
    )

pub returns-clause-ok : goal.returns-clause-ok
returns-clause-ok c =
    let new = c.grow.new.self in
    let nothing = nothing_is new.units new.cost new.total new.steps new.sound
    (subst (FitsSigned w64) c.total.ensures (search rules)) in (
      c.in_ok-grow.ensures.ok,
      λ none. c.if-total-eq0.false (ap (of_z w64) c.total.ensures ∙ nothing.1 none),
    )
