use Rattle.std.proofs.Common.{ℕ, List, Option, inl, inr, sym}
use Rattle.std.proofs.lemmas.Bool.{cases_Bool}
use Rattle.dn_command.specs.Commands.{Asked, names_twice}
use Rattle.dn_run.specs.State.Briefs.{in_brief}
use Rattle.dn_run.specs.Runs.{CommandRun}
use Rattle.dn_run.specs.State.NotAccepted.{NotAccepted}
use Rattle.dn_run.specs.Streams.{SinkRun}
use Rattle.dn_run.specs.Words.{AskedRun}
use Rattle.dn_run.proofs.RunLaws.{not_accepted}
use Rattle.dn_laws.proofs.runs.laws.not_accepted.Goals as goal

module _ {S E : Type 0} (behind : List ℕ → Option (List ℕ)) (out : SinkRun S) (err : SinkRun E) (asked : Asked) where
  of_command : CommandRun (in_brief behind) out err asked 2 → NotAccepted behind asked
  of_command r = not_accepted behind out asked r.answer r.performs (sym r.status_is)

  of_asked : AskedRun (in_brief behind) out err asked 2 → NotAccepted behind asked
  of_asked r = elim (cases_Bool (names_twice asked)) [
    | inl twice ↦ cc ((r.twice twice).status_is)
    | inr once ↦ of_command (r.once once)
  ]

pub returns : goal.returns
returns g c = record {
  command = λ asked behind out_old out_new err_old err_new r. of_command behind _ _ asked r;
  words = λ ws asked behind out_old out_new err_old err_new plain r. of_asked behind _ _ asked (r.asked asked plain);
}
