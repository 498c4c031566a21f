-- Lemmas that a run for which only the answer is said ends in one of the ways that its exit status tells.
use Rattle.std.specs.Io.KnownBytes.{Appends}
use Rattle.std.proofs.Common.{◌≡◌, ◌⊎◌, ℕ, List, Option, None, Some, inl, inr, refl, ap, subst, ◌∙◌}
use Rattle.dn_line.specs.declared.code.Code.{Code}
use Rattle.dn_arc_theory.specs.declared.arc.Form.{Form}
use Rattle.dn_instance.specs.Instances.{Instance}
use Rattle.dn_instance.specs.SourceReads.{IsOfReading}
use Rattle.dn_instance.specs.Texts.{IsFirstFault, Reads}
use Rattle.dn_instance.specs.declared.companion.CompanionFault.{CompanionFault}
use Rattle.dn_instance.specs.declared.refusal.Place.{Place}
use Rattle.dn_instance.specs.declared.refusal.Refusal.{Refusal}
use Rattle.dn_instance.specs.declared.refusal.Refusal.TheVariants.{Text, Memory, Read, Endless, Write, CountTooLarge}
use Rattle.dn_report.specs.FaultLines.{fault_line, unfit_line}
use Rattle.dn_command.specs.Commands.{Asked, Show, Check, Canon, Compare}
use Rattle.dn_run.specs.Answers.{Answer, Done, Refused, Unfit, Cut, IsAnswerTo, OutAfter, Tells, status_of}
use Rattle.dn_run.specs.State.Briefs.{in_brief, known_text}
use Rattle.dn_run.specs.Outcomes.{OnText, OnTwoTexts}
use Rattle.dn_run.specs.Runs.{Performs}
use Rattle.dn_run.specs.Statuses.{EndsAs, EndsLarge, EndsOne, wrote, faulty, failed, EndsTwo, wrote_both, one_faulty, unfit, failed_two, HasWritten, IsFaultOf, RanPlain}
use Rattle.dn_run.specs.Streams.{SinkRun, TakesLine}
use Rattle.dn_run.specs.Texts.{IsRefusedText}
use Rattle.dn_run.specs.Words.{Ran}
use Rattle.dn_run.proofs.OutcomeLaws.{by_behind}

module _ {S E : Type 0} (behind : List ℕ → Option (List ℕ)) (out : SinkRun S) (err : SinkRun E) where
  has_written : (s : ℕ) (t : List ℕ) → OutAfter out (Done s) → Tells err (Done s)
      → Appends (out.facts.taken out.old) (out.facts.taken out.new) t → HasWritten out err t
  has_written s t after tells took = record { took = took; flushed = after.0; fine = after.1; silent = tells }

  line_of : (of name : List ℕ) (e : Refusal) → of ≡ name → Tells err (Refused of e) → TakesLine err (fault_line name e)
  line_of of name e same tells = subst (λ n. TakesLine err (fault_line n e)) same tells

  unfit_of : (of name : List ℕ) (f : CompanionFault) → of ≡ name → Tells err (Unfit of f)
      → TakesLine err (unfit_line name f)
  unfit_of of name f same tells = subst (λ n. TakesLine err (unfit_line n f)) same tells

  module _ (Puts : List ℕ → Instance → ℕ → List ℕ → Type 0) (Unfits : Instance → CompanionFault → Type 0)
      (Refuses : List ℕ → Refusal → Type 0) (name : List ℕ) (status : ℕ)
      (faults : (b : List ℕ) (p : Place) (c : Code) → Refuses b (Text p c) → IsFirstFault b p c) where
    one_done : (known : Option (List ℕ)) (s : ℕ) → status ≡ s → OutAfter out (Done s) → Tells err (Done s)
        → OnText Puts Unfits Refuses (known_text name known) out (Done s) → EndsOne out err Puts name known status
    one_done None s is after tells h =
        let (b, (I, reads, t, puts, took)) = h.some in
        wrote b I t tt reads (rw is puts) (has_written s t after tells took)
    one_done (Some k) s is after tells h =
        let (I, reads, t, puts, took) = h.handed refl in
        wrote k I t refl reads (rw is puts) (has_written s t after tells took)

    one_faulty_at : (known : Option (List ℕ)) (of : List ℕ) (p : Place) (c : Code) → of ≡ name → status ≡ 2
        → OutAfter out (Refused of (Text p c)) → Tells err (Refused of (Text p c))
        → OnText Puts Unfits Refuses (known_text name known) out (Refused of (Text p c))
        → EndsOne out err Puts name known status
    one_faulty_at known of p c e is after tells h =
        faulty p c (by_behind known (λ b _ r. faults b p c r.1) (h.handed refl)) is
        (record { out_stays = after; tells = line_of of name (Text p c) e tells })

    -- a command with one text, unless its canonical text is too large
    ends_one : (known : Option (List ℕ)) (answer : Answer) → status ≡ status_of answer
        → ((of : List ℕ) (e : Refusal) → answer ≡ Refused of e → of ≡ name)
        → ((of : List ℕ) → answer ≡ Refused of CountTooLarge → ⊥)
        → ((of : List ℕ) (f : CompanionFault) → answer ≡ Unfit of f → ⊥) → OutAfter out answer → Tells err answer
        → OnText Puts Unfits Refuses (known_text name known) out answer → EndsOne out err Puts name known status
    ends_one known (Done s) is named small fits after tells h = one_done known s is after tells h
    ends_one known (Refused of (Text p c)) is named small fits after tells h =
        one_faulty_at known of p c (named of (Text p c) refl) is after tells h
    ends_one known (Refused of Memory) is named small fits after tells h = failed (is, inl after)
    ends_one known (Refused of Read) is named small fits after tells h = failed (is, inl after)
    ends_one known (Refused of Endless) is named small fits after tells h = failed (is, inl after)
    ends_one known (Refused of Write) is named small fits after tells h = failed (is, inl after)
    ends_one known (Refused of CountTooLarge) is named small fits after tells h = absurd (small of refl)
    ends_one known (Unfit of f) is named small fits after tells h = absurd (fits of f refl)
    ends_one known Cut is named small fits after tells h = failed (is, inr after)

  module _ (Puts : List ℕ → Instance → Instance → ℕ → List ℕ → Type 0)
      (Unfits : Instance → Instance → CompanionFault → Type 0) (Refuses : List ℕ → Refusal → Type 0)
      (left right : List ℕ) (status : ℕ)
      (faults : (b : List ℕ) (p : Place) (c : Code) → Refuses b (Text p c) → IsFirstFault b p c) where
    abbrev Ends : Option (List ℕ) → Option (List ℕ) → Type 0
    Ends known known' = EndsTwo out err Puts Unfits left right known known' status

    abbrev On : Option (List ℕ) → Option (List ℕ) → Answer → Type 0
    On known known' answer =
        OnTwoTexts Puts Unfits Refuses (known_text left known) (known_text right known') out answer

    two_done : (known known' : Option (List ℕ)) (s : ℕ) → status ≡ s → OutAfter out (Done s) → Tells err (Done s)
        → On known known' (Done s) → Ends known known'
    two_done None known' s is after tells h =
        let (b, I, reads, (c, (J, reads', t, puts, took))) = h.some in
        wrote_both b c I J t tt reads reads' (rw is puts) (has_written s t after tells took)
    two_done (Some b) known' s is after tells h = elim (h.handed refl) [
      | inl (refusal, e, r) ↦ cc e
      | inr (I, reads, on) ↦ on_right known' I reads on
    ]
      where
        on_right : (known' : Option (List ℕ)) (I : Instance) → Reads b I
            → OnText (λ c J. Puts b I J) (Unfits I) (IsRefusedText (known_text right known')) (known_text right known')
            out (Done s) → Ends (Some b) known'
        on_right None I reads on =
            let (c, (J, reads', t, puts, took)) = on.some in
            wrote_both b c I J t (refl, tt) reads reads' (rw is puts) (has_written s t after tells took)
        on_right (Some c) I reads on =
            let (J, reads', t, puts, took) = on.handed refl in
            wrote_both b c I J t (refl, refl) reads reads' (rw is puts) (has_written s t after tells took)

    two_unfit : (known known' : Option (List ℕ)) (of : List ℕ) (f : CompanionFault) → of ≡ right → status ≡ 2
        → OutAfter out (Unfit of f) → Tells err (Unfit of f) → On known known' (Unfit of f) → Ends known known'
    two_unfit None known' of f e is after tells h =
        let (b, I, reads, (c, (J, reads', same, why))) = h.some in
        unfit b c I J f tt reads reads' why is (record { out_stays = after; tells = unfit_of of right f e tells })
    two_unfit (Some b) known' of f e is after tells h = elim (h.handed refl) [
      | inl (refusal, x, r) ↦ cc x
      | inr (I, reads, on) ↦ on_right known' I reads on
    ]
      where
        on_right : (known' : Option (List ℕ)) (I : Instance) → Reads b I
            → OnText (λ c J. Puts b I J) (Unfits I) (IsRefusedText (known_text right known')) (known_text right known')
            out (Unfit of f) → Ends (Some b) known'
        on_right None I reads on =
            let (c, (J, reads', same, why)) = on.some in
            unfit b c I J f (refl, tt) reads reads' why is
            (record { out_stays = after; tells = unfit_of of right f e tells })
        on_right (Some c) I reads on =
            let (J, reads', same, why) = on.handed refl in
            unfit b c I J f (refl, refl) reads reads' why is
            (record { out_stays = after; tells = unfit_of of right f e tells })

    fault_of : (known known' : Option (List ℕ)) (of : List ℕ) (p : Place) (d : Code)
        → On known known' (Refused of (Text p d)) → IsFaultOf left right known known' of p d
    fault_of known known' of p d h = by_behind known (λ b _ x. elim x [
      | inl (refusal, e, r) ↦
          let named : of ≡ left = cc e in
          let same : Text p d ≡ refusal = cc e in
          inl (named, faults b p d (rw (← same) at r))
      | inr (I, reads, on) ↦ inr (I, reads, by_behind known' (λ c _ y. y) (on.handed refl))
    ]) (h.handed refl)

    -- a command with two texts
    ends_two : (known known' : Option (List ℕ)) (answer : Answer) → status ≡ status_of answer
        → ((of : List ℕ) (e : Refusal) → answer ≡ Refused of e → ((of ≡ left) ⊎ (of ≡ right)) × IsOfReading e)
        → ((of : List ℕ) (f : CompanionFault) → answer ≡ Unfit of f → of ≡ right) → OutAfter out answer
        → Tells err answer → On known known' answer → Ends known known'
    ends_two known known' (Done s) is named fits after tells h = two_done known known' s is after tells h
    ends_two known known' (Refused of (Text p d)) is named fits after tells h =
        one_faulty of p d (named of (Text p d) refl).0 (fault_of known known' of p d h) is
        (record { out_stays = after; tells = tells })
    ends_two known known' (Refused of Memory) is named fits after tells h = failed_two (is, inl after)
    ends_two known known' (Refused of Read) is named fits after tells h = failed_two (is, inl after)
    ends_two known known' (Refused of Endless) is named fits after tells h = failed_two (is, inl after)
    ends_two known known' (Refused of Write) is named fits after tells h = failed_two (is, inl after)
    ends_two known known' (Refused of CountTooLarge) is named fits after tells h =
        absurd (named of CountTooLarge refl).1
    ends_two known known' (Unfit of f) is named fits after tells h =
        two_unfit known known' of f (fits of f refl) is after tells h
    ends_two known known' Cut is named fits after tells h = failed_two (is, inr after)

  -- the answer refuses a text since its canonical text is too large, or it does not
  abbrev IsLarge : Answer → Type 0
  IsLarge answer = ((of : List ℕ) × (answer ≡ Refused of CountTooLarge))
      ⊎ ((of : List ℕ) → answer ≡ Refused of CountTooLarge → ⊥)

  large_or_not : (answer : Answer) → IsLarge answer
  large_or_not (Refused of CountTooLarge) = inl (of, refl)
  large_or_not (Refused of (Text p c)) = inr (λ of x. cc x)
  large_or_not (Refused of Memory) = inr (λ of x. cc x)
  large_or_not (Refused of Read) = inr (λ of x. cc x)
  large_or_not (Refused of Endless) = inr (λ of x. cc x)
  large_or_not (Refused of Write) = inr (λ of x. cc x)
  large_or_not (Done s) = inr (λ of x. cc x)
  large_or_not (Unfit of f) = inr (λ of x. cc x)
  large_or_not Cut = inr (λ of x. cc x)

  large_as : (form : Form) (name of : List ℕ) (status : ℕ) → status ≡ 2
      → IsAnswerTo (Canon name form) (Refused of CountTooLarge) → OutAfter out (Refused of CountTooLarge)
      → Tells err (Refused of CountTooLarge)
      → Performs (in_brief behind) out (Canon name form) (Refused of CountTooLarge)
      → EndsLarge out err form name (behind name) status
  large_as form name of status is answers after tells h = record {
    large = by_behind (behind name) (λ b _ r. r.1) (h.handed refl);
    status_is = is;
    refused = record { out_stays = after; tells = line_of of name CountTooLarge answers.0 tells };
  }

  -- a command ends in one of the ways that its exit status tells
  pub ends_as : (asked : Asked) (status : ℕ) (answer : Answer) → status ≡ status_of answer → IsAnswerTo asked answer
      → OutAfter out answer → Tells err answer → Performs (in_brief behind) out asked answer
      → EndsAs behind out err asked status
  ends_as (Show name) status answer is answers after tells h =
      ends_one _ _ _ name status (λ b p c r. r) (behind name) answer is (λ of e x. (rw x at answers).0)
      (λ of x. (rw x at answers).1) (λ of f x. rw x at answers) after tells h
  ends_as (Check name None) status answer is answers after tells h =
      ends_one _ _ _ name status (λ b p c r. r) (behind name) answer is
      (λ of e x. elim (rw x at answers).0 [ inl y ↦ y | inr y ↦ cc y ])
      (λ of x. (rw x at answers).1)
      (λ of f x. let y : None ≡ Some of = rw x at answers in cc y) after tells h
  ends_as (Check name (Some companion)) status answer is answers after tells h =
      ends_two _ _ _ name companion status (λ b p c r. r) (behind name) (behind companion) answer is
      (λ of e x. let y = rw x at answers in (elim y.0 [ inl z ↦ inl z | inr z ↦ inr (cc z) ], y.1))
      (λ of f x. let y : Some companion ≡ Some of = rw x at answers in cc y) after tells h
  ends_as (Canon name form) status answer is answers after tells h = elim (large_or_not answer) [
    | inl (of, e) ↦ inr (large_as form name of status (is ∙ ap status_of e) (rw e at answers) (rw e at after)
        (rw e at tells) (rw e at h))
    | inr small ↦ inl (ends_one _ _ _ name status (λ b p c r. r) (behind name) answer is
        (λ of e x. (rw x at answers).0) small (λ of f x. rw x at answers) after tells h)
  ]
  ends_as (Compare left right) status answer is answers after tells h =
      ends_two _ _ _ left right status (λ b p c r. r) (behind left) (behind right) answer is
      (λ of e x. rw x at answers) (λ of f x. absurd (rw x at answers)) after tells h

  -- what a run does for the words of a plain command
  pub ran_plain : (words : List (List ℕ)) (status : ℕ) → Ran words (in_brief behind) out err status
      → RanPlain words behind out err status
  ran_plain words status r = record {
    once = λ asked plain once.
        let run = (r.asked asked plain).once once in
        ends_as asked status run.answer run.status_is run.answers run.out_after run.tells run.performs;
    twice = λ asked plain twice.
        let refused = (r.asked asked plain).twice twice in
        (refused.status_is, record { out_stays = refused.out_stays; tells = refused.tells });
  }
