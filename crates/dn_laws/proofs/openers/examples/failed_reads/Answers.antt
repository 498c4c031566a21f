use Rattle.std.proofs.Common.{refl, ap, inl, inr}
use Rattle.dn_laws.proofs.openers.examples.failed_reads.Goals as goal

pub returns : goal.returns
returns g c = record {
  stays = λ old new failed h. ap (λ r. r.stream) (h.stays refl);
  interrupted = λ old new reads. elim reads.last [ inl h ↦ absurd (h.0 refl) | inr h ↦ h.0 ];
}
