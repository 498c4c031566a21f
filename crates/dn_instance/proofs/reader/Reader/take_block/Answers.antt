use Rattle.std.proofs.Common.{◌∙◌, ap, Err, arith, subst}
use Rattle.std.proofs.lemmas.List.{drop_all}
use Rattle.dn_instance.specs.State.TextsSoFar.{ReadsOn}
use Rattle.dn_instance.proofs.RowLinesLaws.{read_next, refuse_next}
use Rattle.dn_instance.proofs.reader.Reader.take_block.Goals as goal

pub loop-line-preserved : goal.loop-line-preserved
loop-line-preserved c = record {
  left = λ ls bytes end l.
      read_next c.loop-line.self.text ls bytes end c.args.head c.args.rows.now c.loop-line.line-index _
      c.loop-line-test.true (c.loop-line.invariant.left ls bytes end l) c.take.new.self c.in_default.ensures.stands;
  counted = omega (arith, c.in_default.ensures.counts, c.loop-line.invariant.counted);
  line = c.loop-line.invariant.line;
  fine = c.loop-line.invariant.fine;
}

pub returns-in-Err : goal.returns-in-Err
returns-in-Err c = record {
  taken = λ ls bytes end l.
      refuse_next c.loop-line.self.text ls bytes end c.args.head c.args.rows.now c.loop-line.line-index _
      c.loop-line-test.true (c.loop-line.invariant.left ls bytes end l) c.refuse.new.self c.in-Err.fault c.refuse.result
      c.in-Err.ensures.answer (λ ms m at is e. c.in-Err.ensures.item ms m at is (ap Err e))
      (λ ms at. rw c.refuse.ensures.text (c.in-Err.ensures.unchanged ms at)) c.refuse.ensures.refusal
      (λ ms at. c.refuse.ensures.said ms (c.in-Err.ensures.unchanged ms at));
  line = c.refuse.ensures.line ∙ c.loop-line.invariant.line;
  refusal = c.refuse.ensures.refusal;
}

pub returns : goal.returns
returns c = record {
  taken = λ ls bytes end l.
      let done =
      rw (drop_all c.loop-line.line-index c.args.rows.now c.loop-line-test.false)
      at (c.loop-line.invariant.left ls bytes end l) in
      subst (ReadsOn c.loop-line.self.text ls bytes) done.rows_are done.on;
  line = c.loop-line.invariant.line;
  refusal = c.loop-line.invariant.fine;
}
