use Rattle.std.proofs.Common.{ℕ, List, [], Option, None, Some, codes, inl, inr, refl}
use Rattle.std.specs.Fmt.{digits}
use Rattle.dn_line.specs.declared.code.Code.TheVariants.{FieldCount}
use Rattle.dn_instance.specs.Texts.{IsFirstFault}
use Rattle.dn_instance.specs.declared.refusal.Place.TheVariants.{Line}
use Rattle.dn_instance.proofs.FirstFaults.{first_is, not_both, same_code, same_place}
use Rattle.dn_command.specs.Commands.{Check}
use Rattle.dn_run.specs.Statuses.{EndsAs, wrote, faulty, failed}
use Rattle.dn_laws.specs.State.RunExamples.{Gives, took}
use Rattle.dn_laws.proofs.runs.ExampleLaws.{took_line}
use Rattle.dn_laws.proofs.runs.examples.faulty_text.Goals as goal

abbrev text : List ℕ
text = codes "p sp 1\n"

fault : IsFirstFault text (Line 1) FieldCount
fault = first_is _ _ _ refl

abbrev behind : List ℕ → Option (List ℕ)
behind name = Some text

by_end : (out err : List ℕ) (status : ℕ) → EndsAs behind (took out) (took err) (Check (codes "x.gr") None) status
    → Gives 2 [] (codes "x.gr:1: 8 FieldCount\n") out err status
unfolding digits
by_end out err status (wrote b I t are reads puts written) =
    absurd (not_both text I (Line 1) FieldCount (rw are reads) fault)
by_end out err status (faulty place code first two refused) =
    let at = same_place text place (Line 1) code FieldCount first fault in
    let why = same_code text place (Line 1) code FieldCount first fault in
    inl (two, refused.out_stays, took_line err _ (rw (at, why) at refused.tells))
by_end out err status (failed h) = inr h.0

pub returns : goal.returns
returns c out err status r = by_end out err status (r.once (Check (codes "x.gr") None) refl refl)
