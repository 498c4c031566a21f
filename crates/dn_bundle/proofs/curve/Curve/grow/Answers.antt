use Rattle.std.proofs.Common.{rules, ◌+ℤ◌, ◌++◌, ◌∷◌, [], ap, sym, ◌∙◌, subst}
use Rattle.dn_arc_theory.specs.declared.arc.Form.TheVariants.{One}
use Rattle.dn_arc_theory.specs.Meanings.{SameCurve}
use Rattle.dn_arc_theory.specs.State.CurveListed.{listed}
use Rattle.dn_arc_theory.specs.State.Curves.{CurveNumbers}
use Rattle.dn_bundle.specs.State.Shapes.{shape_numbers}
use Rattle.dn_bundle.proofs.GrowLaws.{taken_same, taken_sound, same_curve}
use Rattle.dn_bundle.proofs.curve.Curve.grow.Goals as goal

pub invariant_of-self-inside : goal.invariant_of-self-inside
invariant_of-self-inside c =
    let old = shape_numbers c.self.inside.shape in
    let total = c.requires.total ∙ ap (λ (v : CurveNumbers). v.total +ℤ c.args.arc.cap) (sym c.self.view_is) in (
      taken_sound old
          (shape_numbers c.add.new.self) c.args.arc c.args.total c.self.inside.sound c.requires.arc total c.ranges.total
          (search rules) c.add.result c.add.ensures.ok c.add.ensures.err,
      tt,
    )

pub returns-in-Err-clause-err : goal.returns-in-Err-clause-err
returns-in-Err-clause-err c =
    same_curve c.self.inside.shape c.add.new.self c.self.inside.sound _ c.in-Err.ensures.err ∙ c.self.view_is

pub returns-clause-ok : goal.returns-clause-ok
returns-clause-ok c =
    let old = shape_numbers c.self.inside.shape in
    let new = shape_numbers c.add.new.self in
    let total = c.requires.total ∙ ap (λ (v : CurveNumbers). v.total +ℤ c.args.arc.cap) (sym c.self.view_is) in
    subst
    (λ (v : CurveNumbers). SameCurve (listed One new.units new.cost new.steps)
    (listed One v.units v.cost v.steps ++ c.args.arc ∷ [])) c.self.view_is
    (taken_same old new c.args.arc c.args.total c.self.inside.sound c.requires.arc total c.ranges.total
    (search rules) c.in_default.ensures.ok)
