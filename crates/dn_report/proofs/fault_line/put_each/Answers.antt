use Rattle.std.proofs.Common.{◌≡◌, ℕ, ◌+◌, ◌<◌, List, [], ◌++◌, Bor, refl, ap, drop, get_or, length, map, arith}
use Rattle.std.specs.List.{concat}
use Rattle.std.proofs.lemmas.List.{drop_all, drop_more}
use Rattle.dn_sink.proofs.PutLaws.{put_from, put_more, put_stop, stopped}
use Rattle.dn_report.proofs.fault_line.put_each.Goals as goal

-- the bytes of pieces, one after the other
abbrev text : List (Bor (List ℕ)) → List ℕ
text pieces = concat (map (λ p. p.now) pieces)

-- the bytes from piece i on are those of piece i and then those of the other pieces
next_piece : (pieces : List (Bor (List ℕ))) (i : ℕ) → i < length pieces
    → text (drop i pieces) ≡ (get_or pieces i (record { ref_ptr = (0, 0); now = [] })).now ++ text (drop (i + 1) pieces)
next_piece pieces i h = ap text (drop_more pieces i (record { ref_ptr = (0, 0); now = [] }) h)

pub loop-piece-init : goal.loop-piece-init
loop-piece-init g c = put_from refl

pub loop-piece-preserved : goal.loop-piece-preserved
loop-piece-preserved g c =
    put_more
    (rw (next_piece c.args.pieces.now c.loop-piece.piece-index c.loop-piece-test.true) at c.loop-piece.invariant)
    c.in_ok-put_all.ensures

pub returns-in_err-put_all : goal.returns-in_err-put_all
returns-in_err-put_all g c =
    stopped _ c.from_residual.ensures.0
    (put_stop _ _
    (rw (next_piece c.args.pieces.now c.loop-piece.piece-index c.loop-piece-test.true) at c.loop-piece.invariant)
    c.in_err-put_all.ensures)

pub returns : goal.returns
returns g c =
    rw (drop_all c.loop-piece.piece-index c.args.pieces.now (omega (arith, c.loop-piece-test.false)))
    at c.loop-piece.invariant
