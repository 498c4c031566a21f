use Rattle.std.proofs.Common.{sym, ◌∙◌}
use Rattle.dn_line.specs.Pieces.{parts}
use Rattle.dn_line.specs.Words.{is_blank}
use Rattle.dn_line.proofs.LineStateLaws.{comment_fed, no_bytes, nothing_fed, whole_fed, word_more}
use Rattle.dn_line.proofs.line_state.LineState.feed.Goals as goal

pub loop-rest-init : goal.loop-rest-init
loop-rest-init c s r = nothing_fed c.args.self.now s c.args.piece.now r

pub loop-rest-preserved : goal.loop-rest-preserved
loop-rest-preserved c s r =
    let fed = c.loop-rest.invariant s r in
    word_more c.loop-rest.self c.take_word-rest.new.self s c.args.piece.now c.loop-rest.rest.now
    c.take_word-rest.result.now c.is_comment.result fed
    (c.is_comment.ensures (parts is_blank fed.reached.used) fed.reached.stands) c.if-is_comment.false
    c.take_word-rest.ensures.stands

pub returns : goal.returns
returns c s r =
    whole_fed c.loop-rest.self s c.args.piece.now c.loop-rest.rest.now (c.loop-rest.invariant s r)
    (no_bytes c.loop-rest.rest.now (sym c.is_empty.ensures ∙ c.loop-rest-test.false))

pub returns-then-is_comment : goal.returns-then-is_comment
returns-then-is_comment c s r =
    let fed = c.loop-rest.invariant s r in
    comment_fed c.loop-rest.self s c.args.piece.now c.loop-rest.rest.now c.is_comment.result fed
    (c.is_comment.ensures (parts is_blank fed.reached.used) fed.reached.stands) c.if-is_comment.true
