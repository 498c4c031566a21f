use Rattle.std.proofs.Common.{◌≡◌, ◌≤◌, ℕ, zero, suc, pos, List, [], ◌∷◌, Option, Some, codes, inl, inr, refl, ap, ◌∙◌, arith}
use Rattle.std.specs.Fmt.{digits}
use Rattle.dn_arc_theory.proofs.LengthsLaws.{lone}
use Rattle.dn_instance.specs.Instances.{Instance}
use Rattle.dn_instance.specs.Texts.{Reads}
use Rattle.dn_instance.specs.declared.verdict.Verdict.{Verdict}
use Rattle.dn_instance.specs.declared.verdict.Verdict.TheVariants.{Same}
use Rattle.dn_instance.proofs.FirstFaults.{clean_is, not_both}
use Rattle.dn_compare.specs.FirstDifference.{IsFirstDifference}
use Rattle.dn_compare.proofs.VerdictLaws.{one_first, same_first}
use Rattle.dn_sink.specs.Rows.{line_text}
use Rattle.dn_report.specs.Verdicts.{verdict_row}
use Rattle.dn_command.specs.Commands.{Compare}
use Rattle.dn_run.specs.Findings.{PutsCompared}
use Rattle.dn_run.specs.Statuses.{EndsAs, wrote_both, one_faulty, unfit, failed_two}
use Rattle.dn_laws.specs.State.DifferenceExamples.{length_arc_at, lengths_at, with_lengths}
use Rattle.dn_laws.specs.State.RunExamples.{Gives, took, two_texts}
use Rattle.dn_laws.proofs.differences.ExampleLaws.{lengths_part}
use Rattle.dn_laws.proofs.runs.ExampleLaws.{one_instance}
use Rattle.dn_laws.proofs.runs.examples.two_texts.Goals as goal

abbrev left : List ℕ
left = codes "p sp 3 1\na 1 2 3\n"

abbrev right : List ℕ
right = codes "p sp 3 1\na 1 2 4\n"

abbrev I : Instance
I = with_lengths (length_arc_at (pos 1) (pos 2) (pos 3) ∷ [])

abbrev J : Instance
J = with_lengths (length_arc_at (pos 1) (pos 2) (pos 4) ∷ [])

abbrev told : List ℕ
told = codes "differ pair 1 2 length 3 4\n"

abbrev verdict : Verdict
verdict = lengths_at (pos 1) (pos 2) (Some (pos 3)) (Some (pos 4))

reads_left : Reads left I
reads_left = record { clean = clean_is _ refl; whole = refl; instance_is = refl }

reads_right : Reads right J
reads_right = record { clean = clean_is _ refl; whole = refl; instance_is = refl }

first : IsFirstDifference I J verdict
first = lengths_part (lone _, lone _, λ e. cc) (λ e. cc, (λ e. cc, tt))

-- a status of at most 1 that is not 0 is 1
one : (n : ℕ) → n ≤ 1 → (n ≡ 0 → ⊥) → n ≡ 1
one zero most differ = absurd (differ refl)
one (suc n) most differ = omega (arith, most)

told_is : line_text (verdict_row verdict) ≡ told
unfolding digits
told_is = refl

compared : (out err : List ℕ) (status n : ℕ) → status ≡ n → PutsCompared I J n out → err ≡ []
    → Gives 1 told [] out err status
compared out err status n is p none =
    let same = one_first I J p.verdict verdict p.first first in
    let differ : n ≡ 0 → ⊥ =
    λ zero. cc (one_first I J Same verdict (same_first I J (p.same.0 zero)) first) in
    inl (is ∙ one n p.most differ, p.text_is ∙ ap (λ v. line_text (verdict_row v)) same ∙ told_is, none)

abbrev behind : List ℕ → Option (List ℕ)
behind = two_texts (codes "a") left right

by_end : (out err : List ℕ) (status : ℕ) → EndsAs behind (took out) (took err) (Compare (codes "a") (codes "b")) status
    → Gives 1 told [] out err status
by_end out err status (wrote_both b c K L t are reads reads' puts written) =
    let same = one_instance left K I (rw are.0 reads) reads_left in
    let same' = one_instance right L J (rw are.1 reads') reads_right in
    compared out err status status refl (rw (same, same', ← written.took) at puts) written.silent
by_end out err status (one_faulty of place code named (inl (is, first)) two refused) =
    absurd (not_both left I place code reads_left first)
by_end out err status (one_faulty of place code named (inr (K, reads, (is, first))) two refused) =
    absurd (not_both right J place code reads_right first)
by_end out err status (unfit b c K L fault are reads reads' never two refused) = absurd never
by_end out err status (failed_two h) = inr h.0

pub returns : goal.returns
returns c out err status r = by_end out err status (r.once (Compare (codes "a") (codes "b")) refl refl)
