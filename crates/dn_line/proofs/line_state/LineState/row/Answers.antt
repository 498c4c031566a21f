use Rattle.dn_line.proofs.LineStateLaws.{row_agrees}
use Rattle.dn_line.proofs.line_state.LineState.row.Goals as goal

pub returns : goal.returns
returns c l t =
    rw (c.row.ensures, c.all_words.ensures (t.closed, t.last) t.stands)
    (row_agrees c.args.known c.args.head c.args.self.now l t)
