-- What a run of `canon` has written has the answers of its input.
use Rattle.std.proofs.Common.{◌≡◌, ℕ, List, Option, Some, refl, inl, inr}
use Rattle.dn_arc_theory.specs.declared.arc.Form.{Form}
use Rattle.dn_command.specs.Commands.{Canon, Compare, plain_asked}
use Rattle.dn_instance.proofs.ValidLaws.{reads_valid}
use Rattle.dn_run.specs.Statuses.{AreBoth, AreBytes, EndsAs, wrote, faulty, failed, wrote_both, one_faulty, unfit, failed_two, RanPlain}
use Rattle.dn_run.specs.Streams.{SinkRun}
use Rattle.dn_answers.specs.Runs.{WroteAnswersOf, PosedSameAnswers}
use Rattle.dn_answers.proofs.AnswerLaws.{text_answers, same_answers}

-- the bytes of a text are the known ones
one_known : (o : Option (List ℕ)) (b c : List ℕ) → o ≡ Some b → AreBytes o c → b ≡ c
one_known o b c known are = rw known at are

both_known : (l r : Option (List ℕ)) (b c b' c' : List ℕ) → l ≡ Some b → r ≡ Some c → AreBoth l r b' c'
    → (b ≡ b') × (c ≡ c')
both_known l r b c b' c' left right are =
    let (same, other) = rw left at are in (same, one_known r c c' right other)

module _ {S E : Type 0} (behind : List ℕ → Option (List ℕ)) (out : SinkRun S) (err : SinkRun E) where
  -- if a run of `canon` ends with status 0, `out` took a text with the answers of the bytes behind the name
  pub canon_answers_kept : (name b : List ℕ) (form : Form) → EndsAs behind out err (Canon name form) 0
      → behind name ≡ Some b → WroteAnswersOf (out.facts.taken out.old) (out.facts.taken out.new) b
  canon_answers_kept name b form (inl (wrote c I t are reads puts written)) known =
      let same = one_known (behind name) b c known are in
      record {
        text = t;
        took = written.took;
        read = I;
        reads = rw same reads;
        answers = text_answers form c t I reads puts.1;
      }
  canon_answers_kept name b form (inl (faulty p d first two refused)) known = cc two
  canon_answers_kept name b form (inl (failed h)) known = cc (h.0)
  canon_answers_kept name b form (inr large) known = cc (large.status_is)

  -- the same of a run for words that are a plain form of `canon`
  pub words_answers_kept : (words : List (List ℕ)) (name b : List ℕ) (form : Form)
      → plain_asked words ≡ Some (Canon name form) → RanPlain words behind out err 0 → behind name ≡ Some b
      → WroteAnswersOf (out.facts.taken out.old) (out.facts.taken out.new) b
  words_answers_kept words name b form plain run known =
      canon_answers_kept name b form (run.once (Canon name form) plain refl) known

  -- if a run of `compare` ends with status 0, both texts have the same answers
  pub compared_same : (left right b c : List ℕ) → EndsAs behind out err (Compare left right) 0
      → behind left ≡ Some b → behind right ≡ Some c → PosedSameAnswers b c
  compared_same left right b c (wrote_both b' c' I J t are reads reads' puts written) known other =
      let same = both_known (behind left) (behind right) b c b' c' known other are in
      record {
        left = I;
        right = J;
        reads_left = rw same.0 reads;
        reads_right = rw same.1 reads';
        same = same_answers I J (reads_valid b' I reads) (reads_valid c' J reads') (puts.same.0 refl);
      }
  compared_same left right b c (one_faulty of p d named fault two refused) known other = cc two
  compared_same left right b c (unfit b' c' I J fault are reads reads' never two refused) known other = cc two
  compared_same left right b c (failed_two h) known other = cc (h.0)
