use Rattle.std.proofs.Common.{◌≡◌, ◌⊎◌, ◌↔◌, ℕ, ◌≤◌, List, Option, Some, inl, inr}
use Rattle.std.specs.Io.KnownBytes.{Appends}
use Rattle.dn_line.specs.declared.code.Code.{Code}
use Rattle.dn_instance.specs.Instances.{Instance}
use Rattle.dn_instance.specs.Sameness.{IsSame}
use Rattle.dn_instance.specs.Texts.{IsFirstFault, Reads}
use Rattle.dn_instance.specs.declared.refusal.Place.{Place}
use Rattle.dn_instance.specs.declared.verdict.Verdict.{Verdict}
use Rattle.dn_compare.specs.FirstDifference.{IsFirstDifference}
use Rattle.dn_sink.specs.Rows.{line_text}
use Rattle.dn_report.specs.Verdicts.{verdict_row}
use Rattle.dn_command.specs.Commands.{Compare}
use Rattle.dn_run.specs.Statuses.{EndsAs, IsFaultOf, wrote_both, one_faulty, unfit, failed_two}
use Rattle.dn_run.specs.Streams.{SinkRun}
use Rattle.dn_laws.proofs.runs.laws.compare_by_status.Goals as goal

module _ {S E : Type 0} (left right b c : List ℕ) (behind : List ℕ → Option (List ℕ)) (known : behind left ≡ Some b)
    (known' : behind right ≡ Some c) (out : SinkRun S) (err : SinkRun E) (status : ℕ) where
  abbrev Faulty : Type 0
  Faulty = ((p : Place) × ((d : Code) × IsFirstFault b p d))
      ⊎ ((I : Instance) × (Reads b I × ((p : Place) × ((d : Code) × IsFirstFault c p d))))

  abbrev Ends : Type 0
  Ends = ((I : Instance) × ((J : Instance) × (Reads b I × (Reads c J × ((v : Verdict) × (IsFirstDifference I J v
      × (Appends (out.facts.taken out.old) (out.facts.taken out.new) (line_text (verdict_row v))
      × ((status ≤ 1) × ((status ≡ 0) ↔ IsSame I J)))))))))
      ⊎ (((status ≡ 2) × ((out.new ≡ out.old) × Faulty)) ⊎ (status ≡ 4))

  fault_of : (of : List ℕ) (p : Place) (d : Code) → IsFaultOf left right (behind left) (behind right) of p d → Faulty
  fault_of of p d h = elim (rw (known, known') at h) [
    | inl (named, first) ↦ inl (p, (d, first))
    | inr (I, reads, (named, first)) ↦ inr (I, (reads, (p, (d, first))))
  ]

  by_status : EndsAs behind out err (Compare left right) status → Ends
  by_status (wrote_both b' c' I J t are reads reads' puts written) =
      let (same, same') = rw (known, known') at are in
      inl (
        I,
        (
          J,
          (
            rw same reads,
            (
              rw same' reads',
              (
                puts.verdict,
                (
                  puts.first,
                  (
                    rw puts.text_is at written.took,
                    (puts.most, puts.same),
                  ),
                ),
              ),
            ),
          ),
        ),
      )
  by_status (one_faulty of p d named fault two refused) = inr (inl (two, (refused.out_stays, fault_of of p d fault)))
  by_status (unfit b' c' I J fault are reads reads' never two refused) = absurd never
  by_status (failed_two h) = inr (inr h.0)

pub returns : goal.returns
returns g c left right b d behind out_old out_new err_old err_new status known known' run =
    by_status left right b d behind known known' _ _ status run
