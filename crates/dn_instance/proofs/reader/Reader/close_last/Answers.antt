use Rattle.std.proofs.Common.{sym, ◌∙◌}
use Rattle.dn_instance.specs.Readers.{ended}
use Rattle.dn_instance.proofs.PieceSteps.{none_open, with_last, without_last}
use Rattle.dn_instance.proofs.ReaderLaws.{takes_last}
use Rattle.dn_instance.proofs.reader.Reader.close_last.Goals as goal

pub returns-then-pending : goal.returns-then-pending
returns-then-pending c t h =
    let l = h.line.line in
    takes_last c.close.new.self t l.bytes c.close.result
    (with_last t l h.line.open_is (sym c.if-pending.true ∙ c.pending.ensures l h.line.stands))
    (c.close.ensures.taken (ended t) l h.read h.line.stands)

pub returns : goal.returns
returns c t h =
    let l = h.line.line in
    rw (without_last t (none_open t l h.line.open_is (sym c.if-pending.false ∙ c.pending.ensures l h.line.stands)))
    h.read
