-- What a reader of arc lines hands out, step by step.
use Rattle.std.proofs.Common.{◌≡◌, ◌≤◌, ◌+◌, ◌-◌, ℕ, List, [], ◌++◌, take, drop, drop-drop, sym, ap, subst, ◌∙◌, append_assoc, arith}
use Rattle.dn_line.specs.Pieces.{parts, is_line_feed}
use Rattle.dn_line.proofs.PartsLaws.{Parts}
use Rattle.dn_instance.specs.Readers.{ended}
use Rattle.dn_instance.specs.State.ReaderStates.{HasOpen, open_of}
use Rattle.dn_instance.proofs.PieceSteps.{closed_more}
use Rattle.dn_arc_lines.specs.State.ArcLines.{arc_lines_from}
use Rattle.dn_arc_lines.specs.State.Reading.{ArcLinesAt, Hands, HasLines, TakesLines}
use Rattle.dn_arc_lines.specs.declared.arc_line.ArcLine.{ArcLine}
use Rattle.dn_arc_lines.specs.declared.arc_lines.ArcLines.{ArcLines}

-- what follows the first n elements is the same in both lists, so what follows more elements is, too
pub rest_later : {A : Type 0} (n m : ℕ) (xs ys : List A) → n ≤ m → drop n xs ≡ drop n ys → drop m xs ≡ drop m ys
rest_later n m xs ys le same =
    let e : m ≡ n + (m - n) = omega (arith, le) in
    rw (e, ← drop-drop (m - n) n xs, ← drop-drop (m - n) n ys) (ap (drop (m - n)) same)

-- one step after another
pub hands_on : (r r' : ArcLines) (t u v : List ℕ) (front mid out : List ArcLine) → Hands r t u front mid
    → Hands r' u v mid out → Hands r' t v front out
hands_on r r' t u v front mid out h k = record {
  stands = k.stands;
  rows = h.rows ++ k.rows;
  out_is = rw (k.out_is, h.out_is) (append_assoc front h.rows k.rows);
  rows_are = rw (k.rows_are, h.rows_are) (append_assoc _ h.rows k.rows);
}

-- complete lines that are taken where no line is open
pub hands_rows : (old new : ArcLines) (t piece : List ℕ) (used : ℕ) (front out : List ArcLine) → ArcLinesAt old t
    → open_of t ≡ [] → new.line ≡ old.line → TakesLines new (ended t) (take used piece) front out
    → Hands new t (t ++ take used piece) front out
hands_rows old new t piece used front out h none same f =
    let all = ap (λ x. parts is_line_feed (t ++ x)) (sym f.whole) ∙ closed_more t f.more none f.inner in
    let lines = sym (ap (λ (p : Parts). p.0) all) in
    record {
      stands = record {
        read = subst (HasLines new) lines f.adds.read;
        line = rw same (subst (HasOpen old.line) (none ∙ sym (ap (λ (p : Parts). p.1) all)) h.line);
        stops = λ code is. ap (λ (p : Parts). p.1) all;
      };
      rows = f.adds.rows;
      out_is = f.adds.out_is;
      rows_are = ap (arc_lines_from _ 0) (sym lines) ∙ f.adds.rows_are;
    }
