use Rattle.std.proofs.Common.{◌≡◌, ◌⊎◌, ℕ, List, Option, Some, inl, inr}
use Rattle.std.specs.Io.KnownBytes.{Appends}
use Rattle.dn_arc_theory.specs.declared.arc.Form.{Form}
use Rattle.dn_line.specs.declared.code.Code.{Code}
use Rattle.dn_instance.specs.Instances.{Instance}
use Rattle.dn_instance.specs.Texts.{IsFirstFault, Reads}
use Rattle.dn_instance.specs.declared.refusal.Place.{Place}
use Rattle.dn_canon.specs.CanonTexts.{IsCanonOf, IsTooLarge}
use Rattle.dn_command.specs.Commands.{Canon}
use Rattle.dn_run.specs.Statuses.{EndsAs, wrote, faulty, failed}
use Rattle.dn_run.specs.Streams.{SinkRun}
use Rattle.dn_laws.proofs.runs.laws.canon_by_status.Goals as goal

module _ {S E : Type 0} (form : Form) (name b : List ℕ) (behind : List ℕ → Option (List ℕ))
    (known : behind name ≡ Some b) (out : SinkRun S) (err : SinkRun E) (status : ℕ) where
  abbrev Ends : Type 0
  Ends = ((status ≡ 0) × ((I : Instance) × (Reads b I × ((t : List ℕ) × (IsCanonOf form t I
      × Appends (out.facts.taken out.old) (out.facts.taken out.new) t)))))
      ⊎ (((status ≡ 2) × ((out.new ≡ out.old) × (((p : Place) × ((c : Code) × IsFirstFault b p c))
      ⊎ ((I : Instance) × (Reads b I × IsTooLarge form I)))))
      ⊎ (status ≡ 4))

  by_status : EndsAs behind out err (Canon name form) status → Ends
  by_status (inl (wrote c I t are reads puts written)) =
      let same : b ≡ c = rw known at are in
      inl (puts.0, (I, (rw same reads, (t, (puts.1, written.took)))))
  by_status (inl (faulty p d first two refused)) =
      inr (inl (two, (refused.out_stays, inl (p, (d, rw known at first)))))
  by_status (inl (failed h)) = inr (inr h.0)
  by_status (inr large) =
      let (I, reads, too_large) = rw known at large.large in
      inr (inl (large.status_is, (large.refused.out_stays, inr (I, (reads, too_large)))))

pub returns : goal.returns
returns g c name b behind out_old out_new err_old err_new status known run =
    by_status c.args.form name b behind known _ _ status run
