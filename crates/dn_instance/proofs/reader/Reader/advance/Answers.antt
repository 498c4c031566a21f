use Rattle.std.proofs.Common.{◌≡◌, ◌-◌, append-nil, length, arith, refl, sym, ◌∙◌}
use Rattle.dn_line.specs.State.LineStates.{used_of}
use Rattle.dn_instance.specs.Readers.{ended}
use Rattle.dn_instance.proofs.PieceSteps.{none_open}
use Rattle.dn_instance.proofs.ReaderLaws.{block_refused, with_lines}
use Rattle.dn_instance.proofs.reader.Reader.advance.Goals.{else-not-pending, then-not-pending+in-Some+in_default-take_block+else-left-piece, then-not-pending+in_default}
use Rattle.dn_instance.proofs.reader.Reader.advance.Goals as goal

pub returns-in-Err-clause-advances : goal.returns-in-Err-clause-advances
returns-in-Err-clause-advances c t h =
    let none =
    none_open t h.line.line h.line.open_is (sym c.if-not-pending.true ∙ c.pending.ensures h.line.line h.line.stands) in
    let block = c.in-Some.ensures.left (ended t) h.read in
    block_refused c.take_block.new.self t c.args.piece.now block.0 c.in-Err.refusal none
    (c.in-Err.ensures.taken (ended t) c.args.piece.now block.0
    (rw (c.read_block.ensures.text, c.rows-rows.ensures.rows) block.1))

pub returns-then-left-piece-clause-advances : goal.returns-then-left-piece-clause-advances
returns-then-left-piece-clause-advances c t h =
    let none =
    none_open t h.line.line h.line.open_is (sym c.if-not-pending.true ∙ c.pending.ensures h.line.line h.line.stands) in
    let block = c.in-Some.ensures.left (ended t) h.read in (
      length c.args.piece.now - length block.0,
      rw (c.left_behind-left.ensures, c.rows-rows.ensures.rows, block.2) refl,
      with_lines c.take_block.new.self t c.args.piece.now block.0 (rw c.take_block.ensures.line h.line) none
          (c.in_default-take_block.ensures.taken (ended t) c.args.piece.now block.0
          (rw (c.read_block.ensures.text, c.rows-rows.ensures.rows) block.1)),
    )

pub returns-clause-advances : goal.returns-clause-advances
returns-clause-advances c t h =
    let p = c.args.piece.now in (
      used_of p,
      c.step.ensures.used,
      c.step.ensures.advances t
          (elim c.if-not-pending.branch [
            | then-not-pending+in-Some+in_default-take_block+else-left-piece w ↦
                let none =
                none_open t h.line.line h.line.open_is
                (sym w.if-not-pending.true ∙ c.pending.ensures h.line.line h.line.stands) in
                let block = w.in-Some.ensures.left (ended t) h.read in
                let left : w.left_behind-left.result ≡ length block.0 =
                w.left_behind-left.ensures ∙ rw w.rows-rows.ensures.rows block.2 in
                let zero : length p - length block.0 ≡ 0 = omega (arith, w.if-left-piece.false, left) in
                rw w.self-is (rw (zero, append-nil t) at (with_lines w.take_block.new.self t p block.0
                (rw w.take_block.ensures.line h.line) none (w.in_default-take_block.ensures.taken (ended t) p block.0
                (rw (w.read_block.ensures.text, w.rows-rows.ensures.rows) block.1))))
            | then-not-pending+in_default w ↦ rw (w.self-is, w.read_block.ensures.text) h
            | else-not-pending w ↦ rw w.self-is h
          ]),
    )
