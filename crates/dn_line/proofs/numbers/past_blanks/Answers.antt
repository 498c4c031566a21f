use Rattle.std.proofs.Common.{◌-◌, take, drop, length, append-nil, sym, ◌∙◌, arith}
use Rattle.std.proofs.lemmas.List.{take-append-drop, take_all, length-drop}
use Rattle.std.proofs.lemmas.List.Folds.{list_all_more}
use Rattle.dn_line.specs.Words.{is_blank}
use Rattle.dn_line.proofs.numbers.past_blanks.Goals as goal

pub returns-then-not-is_blank : goal.returns-then-not-is_blank
returns-then-not-is_blank c =
    let bytes = c.args.bytes.now in
    let i = c.loop-i.i in
    record {
      blanks = take i bytes;
      whole =
          rw (take_all (length bytes - i) (drop i bytes) (omega (arith, length-drop i bytes)))
          (take-append-drop i bytes);
      all = c.loop-i.invariant.blank;
    }

pub returns : goal.returns
returns c =
    let bytes = c.args.bytes.now in
    record {
      blanks = bytes;
      whole = append-nil bytes;
      all = rw (take_all c.loop-i.i bytes c.loop-i-test.false) at c.loop-i.invariant.blank;
    }

pub loop-i-preserved : goal.loop-i-preserved
loop-i-preserved c =
    record {
      blank =
          rw (list_all_more is_blank c.args.bytes.now c.loop-i.i 0 c.loop-i-test.true, c.loop-i.invariant.blank)
          (sym c.is_blank.ensures ∙ c.if-not-is_blank.false);
    }
