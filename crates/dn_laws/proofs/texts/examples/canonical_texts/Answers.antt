use Rattle.std.proofs.Common.{rules, refl}
use Rattle.std.specs.Fmt.{digits}
use Rattle.dn_arc_theory.specs.declared.arc.Form.TheVariants.{One, Two}
use Rattle.dn_laws.specs.State.BundleExamples.{worked, worked_one, worked_two}
use Rattle.dn_arc_theory.proofs.CurvesLaws.{curve_meaning}
use Rattle.dn_laws.proofs.bundles.ExampleLaws.{worked_form_one, worked_same_one, worked_same_two}
use Rattle.dn_laws.specs.State.TextExamples.{on_one_pair}
use Rattle.dn_laws.proofs.texts.ExampleLaws.{canonical_at, same_at, worked_one_valid, worked_two_valid}
use Rattle.dn_laws.proofs.texts.examples.canonical_texts.Goals as goal

pub returns : goal.returns
unfolding digits
returns c = record {
  one = (
    on_one_pair worked_one,
    record {
      canon = record {
        valid = worked_one_valid;
        canonical = canonical_at One worked_one worked_form_one;
        same = (refl, same_at worked worked_one (curve_meaning.same_sym worked_one worked worked_same_one));
      };
      text_is = refl;
    },
  );
  two = (
    on_one_pair worked_two,
    record {
      canon = record {
        valid = worked_two_valid;
        canonical = canonical_at Two worked_two (search rules);
        same = (refl, same_at worked worked_two (curve_meaning.same_sym worked_two worked worked_same_two));
      };
      text_is = refl;
    },
  );
}
