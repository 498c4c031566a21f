use Rattle.std.proofs.Common.{◌∙◌, sym}
use Rattle.dn_line.proofs.LineStateLaws.{word_pushed, none_last, no_word}
use Rattle.dn_line.proofs.line_state.LineState.close.Goals as goal

pub returns-then-not-is_empty : goal.returns-then-not-is_empty
returns-then-not-is_empty c p h =
    let some = sym (c.is_empty.ensures p.1 h.last_is) ∙ c.if-not-is_empty.true in
    record {
      words_are = rw (word_pushed p.0 p.1 some, ← c.said.ensures p.1 h.last_is) (c.push.ensures _ h.words_are);
      last_is = c.new-self.ensures;
    }

pub returns-else-not-is_empty : goal.returns-else-not-is_empty
returns-else-not-is_empty c p h =
    let none = sym (c.is_empty.ensures p.1 h.last_is) ∙ c.if-not-is_empty.false in
    record {
      words_are = rw (none_last p.0 p.1 none) h.words_are;
      last_is = rw (no_word p.1 none) at h.last_is;
    }
