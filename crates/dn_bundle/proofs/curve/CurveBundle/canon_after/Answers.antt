use Rattle.std.proofs.Common.{◌∙◌}
use Rattle.dn_arc_theory.specs.declared.arc.Form.TheVariants.{Two}
use Rattle.dn_bundle.specs.State.Listings.{curve_arcs}
use Rattle.dn_bundle.proofs.FormLaws.{found_in, next_two}
use Rattle.dn_bundle.proofs.curve.CurveBundle.canon_after.Goals as goal

pub returns-in-Two : goal.returns-in-Two
returns-in-Two c =
    let self = c.args.self.now in
    rw c.in-Two.is (record {
      after = λ i e.
          c.past_two.ensures
          ∙ next_two self.units self.cost self.total self.steps self.sound c.args.arc.now i e;
      listed = found_in _ (curve_arcs Two self) _ c.past_two.ensures;
    })
