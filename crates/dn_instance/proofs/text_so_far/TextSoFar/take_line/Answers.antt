use Rattle.std.proofs.Common.{◌≡◌, ◌+◌, ℕ, List, length, false, arith, inl, inr, ◌∙◌}
use Rattle.std.proofs.lemmas.Bool.{cases_Bool}
use Rattle.dn_line.specs.State.LineStates.{LineSoFar, LineReaderAt}
use Rattle.dn_line.specs.Words.{is_skip, said_words}
use Rattle.dn_instance.specs.Texts.{items_of}
use Rattle.dn_instance.specs.State.TextsSoFar.{IsLineOf, TextAt}
use Rattle.dn_instance.proofs.CleanItems.{fault_is_next, few_more, in_time, is_late, read_more, skip_adds_none, too_long}
use Rattle.dn_instance.proofs.FollowLaws.{line_refused, skip_faultless, skip_only}
use Rattle.dn_instance.proofs.ItemSteps.{with_lines}
use Rattle.dn_instance.proofs.text_so_far.TextSoFar.take_line.Goals as goal

pub returns-then-not-has_room-clause-answer : goal.returns-then-not-has_room-clause-answer
returns-then-not-has_room-clause-answer c ls l h stands =
    too_long (length ls + 1) (items_of ls) (said_words l.bytes)
    (is_late (length ls) c.args.self.now.closed h.number_is
    (omega (arith, c.has_room.ensures.full c.if-not-has_room.true)))

pub returns-in-Skip : goal.returns-in-Skip
returns-in-Skip c =
    let room = c.has_room.ensures.room c.if-not-has_room.false in
    record {
      answer = λ ls l h stands.
          let ws = said_words l.bytes in
          let read = rw c.in-Ok.is at (c.read.ensures (items_of ls) l h.items_are stands) in
          fault_is_next (length ls + 1) (items_of ls) ws
          (in_time (length ls) c.args.self.now.closed h.number_is (omega (arith, room)))
          ∙ skip_faultless (items_of ls) ws (skip_only (items_of ls) ws (rw c.in-Skip.is at read.0));
      stands = λ ls l h stands.
          let ws = said_words l.bytes in
          let read = rw c.in-Ok.is at (c.read.ensures (items_of ls) l h.items_are stands) in
          let skip = skip_only (items_of ls) ws (rw c.in-Skip.is at read.0) in
          let early = in_time (length ls) c.args.self.now.closed h.number_is (omega (arith, room)) in
          read_more c.args.self.now ls l.bytes _ h
          (fault_is_next (length ls + 1) (items_of ls) ws early ∙ skip_faultless (items_of ls) ws skip)
          (omega (arith, h.number_is)) (few_more (length ls) early)
          (with_lines c.args.self.now _ _ (rw (skip_adds_none (items_of ls) ws skip) h.items_are));
      item = λ ls l h stands e. cc;
      unchanged = λ ls h. tt;
    }

-- the line is that of the row
line_is : (c : goal.After-take) (ls : List (List ℕ)) (l : LineSoFar) → TextAt c.args.self.now ls
    → LineReaderAt c.args.line.now l → IsLineOf c.args.self.now c.in-Ok.head c.in-Ok.row ls l.bytes
line_is c ls l h stands =
    let read = rw c.in-Ok.is at (c.read.ensures (items_of ls) l h.items_are stands) in
    let counts : is_skip (said_words l.bytes) ≡ false = elim (cases_Bool (is_skip (said_words l.bytes))) [
      | inl e ↦ absurd (c.in_default.not-Skip (read.1 e))
      | inr n ↦ n
    ] in
    record { counts = counts; reads = read.0 }

pub returns-in_default : goal.returns-in_default
returns-in_default c = record {
  answer = λ ls l h stands. c.take.ensures.answer ls l.bytes h (line_is c ls l h stands);
  stands = λ ls l h stands. c.take.ensures.stands ls l.bytes h (line_is c ls l h stands);
  item = λ ls l h stands. c.take.ensures.item ls l.bytes h (line_is c ls l h stands);
  unchanged = c.take.ensures.unchanged;
}

pub returns-in-Err-clause-answer : goal.returns-in-Err-clause-answer
returns-in-Err-clause-answer c ls l h stands =
    let ws = said_words l.bytes in
    let read = rw c.in-Err.is at (c.read.ensures (items_of ls) l h.items_are stands) in
    rw (fault_is_next (length ls + 1) (items_of ls) ws
    (in_time (length ls) c.args.self.now.closed h.number_is
    (omega (arith, c.has_room.ensures.room c.if-not-has_room.false))))
    (line_refused (items_of ls) ws c.in-Err.code read)
