use Rattle.std.proofs.Common.{◌≡◌, ◌+◌, ◌-◌, ◌∙◌, ap, drop, take, length, arith}
use Rattle.std.proofs.lemmas.List.{drop-drop, take_all, length-drop}
use Rattle.dn_line.proofs.numbers.marked_before.Goals as goal

pub returns-clause-marks : goal.returns-clause-marks
returns-clause-marks c =
    let bytes = c.args.bytes.now in
    let used = c.in_ok-marked.marked.used in
    let whole : take (length bytes - used) (drop used bytes) ≡ drop used bytes =
    take_all (length bytes - used) (drop used bytes) (omega (arith, length-drop used bytes)) in
    let rest : c.in_ok-rest.rest.now ≡ drop (used + 1) bytes =
    c.in_ok-rest.ensures.rest ∙ ap (drop 1) whole ∙ drop-drop 1 used bytes in
    rw rest c.in_ok-marked.ensures.next
