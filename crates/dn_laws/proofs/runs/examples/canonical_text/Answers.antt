use Rattle.std.proofs.Common.{◌≤◌, ◌^◌, ℕ, List, [], Option, Some, codes, inl, inr, refl, ◌∙◌, arith}
use Rattle.std.specs.Fmt.{digits}
use Rattle.dn_arc_theory.specs.declared.arc.Form.TheVariants.{One}
use Rattle.dn_arc_theory.proofs.CurvesLaws.{curve_meaning}
use Rattle.dn_instance.specs.Instances.{Instance}
use Rattle.dn_instance.specs.Texts.{Reads}
use Rattle.dn_instance.proofs.FirstFaults.{clean_is, not_both}
use Rattle.dn_instance.proofs.SameLaws.{refl_of, sym_of, trans_of}
use Rattle.dn_canon.specs.CanonInstances.{IsCanonInstanceOf}
use Rattle.dn_canon.specs.CanonTexts.{IsCanonOf, IsTooLarge}
use Rattle.dn_canon.proofs.TextLaws.{canon_one, texts_agree}
use Rattle.dn_command.specs.Commands.{Canon}
use Rattle.dn_run.specs.Statuses.{EndsAs, wrote, faulty, failed}
use Rattle.dn_laws.specs.State.BundleExamples.{worked, worked_one}
use Rattle.dn_laws.specs.State.RunExamples.{Gives, took}
use Rattle.dn_laws.specs.State.TextExamples.{on_one_pair}
use Rattle.dn_laws.proofs.bundles.ExampleLaws.{worked_form_one, worked_same_one}
use Rattle.dn_laws.proofs.runs.ExampleLaws.{one_instance}
use Rattle.dn_laws.proofs.texts.ExampleLaws.{canonical_at, same_at, worked_one_valid}
use Rattle.dn_laws.proofs.runs.examples.canonical_text.Goals as goal

abbrev text : List ℕ
text = codes "p min 2 3\na 1 2 1 3 0\na 1 2 1 2 3\na 1 2 0 4 1\n"

abbrev canon : List ℕ
canon = codes "p min 2 5\na 1 2 1 1 1\na 1 2 1 1 2\na 1 2 0 2 0\na 1 2 0 4 1\na 1 2 0 1 3\n"

abbrev instance : Instance
instance = on_one_pair worked

read : Reads text instance
read = record { clean = clean_is _ refl; whole = refl; instance_is = refl }

canonical : IsCanonInstanceOf One (on_one_pair worked_one) instance
canonical = record {
  valid = worked_one_valid;
  canonical = canonical_at One worked_one worked_form_one;
  same = (refl, same_at worked worked_one (curve_meaning.same_sym worked_one worked worked_same_one));
}

printed : IsCanonOf One canon instance
unfolding digits
printed = (on_one_pair worked_one, record { canon = canonical; text_is = refl })

not_too_large : IsTooLarge One instance → ⊥
not_too_large (K, k, large) =
    let same = trans_of K instance (on_one_pair worked_one) (sym_of instance K k.same) canonical.same in
    let is = canon_one One K (on_one_pair worked_one) k.canonical canonical.canonical same in
    few (rw is at large)
  where
    few : 2 ^ 63 ≤ 5 → ⊥
    few h = omega (arith, h)

abbrev behind : List ℕ → Option (List ℕ)
behind name = Some text

by_end : (out err : List ℕ) (status : ℕ) → EndsAs behind (took out) (took err) (Canon (codes "x.min") One) status
    → Gives 0 canon [] out err status
by_end out err status (inl (wrote b I t are reads puts written)) =
    let same = one_instance text I instance (rw are reads) read in
    let text_is = (texts_agree One t canon instance instance (rw same at puts.1) printed).1 (refl_of instance) in
    inl (puts.0, written.took ∙ text_is, written.silent)
by_end out err status (inl (faulty place code first two refused)) =
    absurd (not_both text instance place code read first)
by_end out err status (inl (failed h)) = inr h.0
by_end out err status (inr large) =
    let (I, reads, too_large) = large.large in
    absurd (not_too_large (rw (one_instance text I instance reads read) at too_large))

pub returns : goal.returns
returns c out err status r = by_end out err status (r.once (Canon (codes "x.min") One) refl refl)
