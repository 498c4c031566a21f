use Rattle.std.proofs.Common.{◌+◌, length, arith, ◌∙◌}
use Rattle.dn_line.specs.Words.{said_words}
use Rattle.dn_instance.specs.Texts.{items_of}
use Rattle.dn_instance.proofs.CleanItems.{fault_is_next, few_more, in_time, read_more}
use Rattle.dn_instance.proofs.FollowLaws.{next_item}
use Rattle.dn_instance.proofs.ItemSteps.{with_lines}
use Rattle.dn_instance.proofs.text_so_far.TextSoFar.take.Goals as goal

pub returns-in-Ok : goal.returns-in-Ok
returns-in-Ok c = record {
  answer = λ ls l h is.
      let n = next_item (items_of ls) (said_words l) _ is.counts is.reads in
      fault_is_next (length ls + 1) (items_of ls) (said_words l)
      (in_time (length ls) c.args.self.now.closed h.number_is c.requires.room)
      ∙ n.fault
      ∙ (c.in-Ok.ensures.taken (items_of ls) (record { read = h.items_are; may = n.may })).answer.fault;
  stands = λ ls l h is.
      let n = next_item (items_of ls) (said_words l) _ is.counts is.reads in
      let early = in_time (length ls) c.args.self.now.closed h.number_is c.requires.room in
      let took = c.in-Ok.ensures.taken (items_of ls) (record { read = h.items_are; may = n.may }) in
      read_more c.args.self.now ls l _ h
      (fault_is_next (length ls + 1) (items_of ls) (said_words l) early ∙ n.fault ∙ took.answer.fault)
      (omega (arith, c.take_item.ensures.kept, h.number_is)) (few_more (length ls) early)
      (with_lines c.take_item.new.self _ _ (rw n.adds took.holds));
  item = λ ls l h is e. cc;
  unchanged = λ ls h. tt;
  counts = rw c.take_item.ensures.kept;
}

pub returns-in-Err : goal.returns-in-Err
returns-in-Err c = record {
  answer = λ ls l h is.
      let n = next_item (items_of ls) (said_words l) _ is.counts is.reads in
      rw (
        fault_is_next (length ls + 1) (items_of ls) (said_words l)
            (in_time (length ls) c.args.self.now.closed h.number_is c.requires.room),
        n.fault,
      )
      (c.in-Err.ensures.taken (items_of ls) (record { read = h.items_are; may = n.may })).answer.fault;
  stands = λ ls l h is. tt;
  item = λ ls l h is e.
      let n = next_item (items_of ls) (said_words l) _ is.counts is.reads in
      record {
        item = _;
        spelled = n.adds;
        needs = (c.in-Err.ensures.taken (items_of ls) (record { read = h.items_are; may = n.may })).answer.memory e;
      };
  unchanged = λ ls h. record {
    clean = h.clean;
    few = h.few;
    number_is = c.take_item.ensures.kept ∙ h.number_is;
    items_are = c.in-Err.ensures.unchanged (items_of ls) h.items_are;
  };
  counts = tt;
}
