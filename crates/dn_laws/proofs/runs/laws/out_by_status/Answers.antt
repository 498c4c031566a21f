use Rattle.std.proofs.Common.{◌≡◌, ◌⊎◌, ℕ, ◌≤◌, List, [], Option, None, Some, inl, inr, refl, arith}
use Rattle.std.proofs.lemmas.Bool.{cases_Bool}
use Rattle.dn_instance.specs.declared.refusal.Refusal.{Refusal}
use Rattle.dn_instance.specs.declared.refusal.Refusal.TheVariants.{Text, CountTooLarge}
use Rattle.dn_command.specs.Commands.{Asked, Show, Compare, asks, names_twice, plain_asked}
use Rattle.dn_command.specs.declared.request.Request.{Request}
use Rattle.dn_command.specs.declared.request.Request.TheVariants as requests
use Rattle.dn_run.specs.Answers.{Answer, Done, Refused, Unfit, Cut, IsAnswerTo, IsDoneWith, OutAfter, refusal_status, status_of}
use Rattle.dn_run.specs.Details.{Detail}
use Rattle.dn_run.specs.State.OutByStatus.{OutByStatus}
use Rattle.dn_run.specs.Streams.{SinkRun}
use Rattle.dn_run.specs.Words.{AskedRun, PutsAll, Ran, RequestRun}
use Rattle.dn_laws.proofs.runs.laws.out_by_status.Goals as goal

low : (n : ℕ) → (n ≡ 0) ⊎ (n ≡ 1) → n ≤ 1
low n (inl e) = omega (arith, e)
low n (inr e) = omega (arith, e)

middle : (n : ℕ) → (n ≡ 2) ⊎ (n ≡ 3) → (2 ≤ n) × (n ≤ 3)
middle n (inl e) = (omega (arith, e), omega (arith, e))
middle n (inr e) = (omega (arith, e), omega (arith, e))

done_low : (asked : Asked) (status : ℕ) → IsDoneWith asked status → status ≤ 1
done_low (Compare left right) status h = h
done_low _ status h = omega (arith, h)

refused_high : (e : Refusal) → 2 ≤ refusal_status e
refused_high (Text place code) = omega arith
refused_high CountTooLarge = omega arith
refused_high _ = omega arith

module _ {S E : Type 0} (detail : Detail) (out : SinkRun S) (err : SinkRun E) (number : ℕ) where
  of_answer : (asked : Asked) (answer : Answer) → number ≡ status_of answer → IsAnswerTo asked answer
      → OutAfter out answer → OutByStatus out number
  of_answer asked (Done status) is answers after =
      let most = done_low asked status answers in
      record {
        flushed = λ h. after.0;
        fine = λ h. after.1;
        refused = λ h. absurd (omega (arith, is, most, (middle number h).0));
      }
  of_answer asked (Refused name e) is answers after =
      let least = refused_high e in
      record {
        flushed = λ h. absurd (omega (arith, is, least, low number h));
        fine = λ h. absurd (omega (arith, is, least, low number h));
        refused = λ h. after;
      }
  of_answer asked (Unfit name fault) is answers after = record {
    flushed = λ h. absurd (omega (arith, is, low number h));
    fine = λ h. absurd (omega (arith, is, low number h));
    refused = λ h. after;
  }
  of_answer asked Cut is answers after = record {
    flushed = λ h. absurd (omega (arith, is, low number h));
    fine = λ h. absurd (omega (arith, is, low number h));
    refused = λ h. absurd (omega (arith, is, (middle number h).1));
  }

  -- a run that leaves `out` unchanged ends with status 3 or 4
  unchanged : 3 ≤ number → out.new ≡ out.old → OutByStatus out number
  unchanged high stays = record {
    flushed = λ h. absurd (omega (arith, high, low number h));
    fine = λ h. absurd (omega (arith, high, low number h));
    refused = λ h. stays;
  }

  of_asked : (asked : Asked) → AskedRun detail out err asked number → OutByStatus out number
  of_asked asked r = elim (cases_Bool (names_twice asked)) [
    | inl twice ↦
        let refused = r.twice twice in
        unchanged (omega (arith, refused.status_is)) refused.out_stays
    | inr once ↦
        let run = r.once once in
        of_answer asked run.answer run.status_is run.answers run.out_after
  ]

  -- a text that is printed makes an answer that `show` may have
  printed : (t : List ℕ) (answer : Answer) → PutsAll out t answer → IsAnswerTo (Show []) answer
  printed t (Done status) (inl (e, took)) = cc
  printed t Cut h = tt
  printed t (Done status) (inr (e, part)) = cc
  printed t (Refused name refusal) (inl (e, took)) = cc
  printed t (Refused name refusal) (inr (e, part)) = cc
  printed t (Unfit name fault) (inl (e, took)) = cc
  printed t (Unfit name fault) (inr (e, part)) = cc

  of_request : (request : Request) → RequestRun detail out err request number → OutByStatus out number
  of_request (requests.Command command) r = of_asked (asks command) r
  of_request (requests.Print text) r =
      of_answer (Show []) r.0.answer r.0.status_is (printed _ r.0.answer r.0.puts) r.0.out_after
  of_request requests.Bad r = unchanged (omega (arith, r.status_is)) r.out_stays
  of_request requests.Memory r = unchanged (omega (arith, r.status_is)) r.out_stays

  of_words : (words : List (List ℕ)) (o : Option Asked) → plain_asked words ≡ o → Ran words detail out err number
      → OutByStatus out number
  of_words words None none r = let (request, is, run) = r.other none in of_request request run
  of_words words (Some asked) plain r = of_asked asked (r.asked asked plain)

pub returns : goal.returns
returns g c words behind out_old out_new err_old err_new status r = of_words _ _ _ _ words _ refl r
