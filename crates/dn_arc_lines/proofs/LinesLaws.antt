-- The arc lines of lines that follow others.
use Rattle.std.proofs.Common.{◌≡◌, ℕ, suc, ◌+◌, ◌-◌, ◌^◌, ◌<◌, List, [], ◌∷◌, ◌++◌, length, length-append, cond, is_some, Option, None, Result, sym, ap, ◌∙◌, append-nil, append_assoc, arith}
use Rattle.std.specs.Option.{option_map, option_or}
use Rattle.dn_line.specs.declared.kind.Kind.{Kind}
use Rattle.dn_line.specs.declared.code.Code.{Code}
use Rattle.dn_line.specs.declared.line.Line.{Line}
use Rattle.dn_instance.proofs.CleanItems.{or_none, or_assoc}
use Rattle.dn_arc_lines.specs.State.ArcLines.{arc_line_read, arc_lines_from, fault_from, fault_read, kind_then, read_by_itself}
use Rattle.dn_arc_lines.specs.State.Reading.{Adds, HasLines, kind_after}
use Rattle.dn_arc_lines.specs.declared.arc_line.ArcLine.{ArcLine}
use Rattle.dn_arc_lines.specs.declared.arc_lines.ArcLines.{ArcLines}

none_more : (n : ℕ) → n + 0 ≡ n
none_more n = omega arith

one_less : (n k : ℕ) → n + suc k ≡ (n + 1) + k
one_less n k = omega arith

pub kind_append : (known : Option Kind) (n : ℕ) (ls ms : List (List ℕ))
    → kind_after known n (ls ++ ms) ≡ kind_after (kind_after known n ls) (n + length ls) ms
kind_append known n [] ms = rw none_more
kind_append known n (l ∷ ls) ms =
    kind_append (kind_then known (read_by_itself known (n + 1) l)) (n + 1) ls ms
    ∙ ap (λ m. kind_after (kind_after known n (l ∷ ls)) m ms) (sym (one_less n (length ls)))

pub arcs_append : (known : Option Kind) (n : ℕ) (ls ms : List (List ℕ)) → arc_lines_from known n (ls ++ ms)
    ≡ arc_lines_from known n ls ++ arc_lines_from (kind_after known n ls) (n + length ls) ms
arcs_append known n [] ms = rw none_more
arcs_append known n (l ∷ ls) ms =
    let first = arc_line_read (n + 1) (read_by_itself known (n + 1) l) in
    let then = kind_then known (read_by_itself known (n + 1) l) in
    ap (λ x. first ++ x) (arcs_append then (n + 1) ls ms)
    ∙ sym (append_assoc first (arc_lines_from then (n + 1) ls) _)
    ∙ ap (λ m. (first ++ arc_lines_from then (n + 1) ls) ++ arc_lines_from (kind_after then (n + 1) ls) m ms)
    (sym (one_less n (length ls)))

pub fault_append : (known : Option Kind) (n : ℕ) (ls ms : List (List ℕ)) → fault_from known n (ls ++ ms)
    ≡ option_or (fault_from known n ls) (fault_from (kind_after known n ls) (n + length ls) ms)
fault_append known n [] ms = rw none_more
fault_append known n (l ∷ ls) ms =
    let first = fault_read (n + 1) (read_by_itself known (n + 1) l) in
    let then = kind_then known (read_by_itself known (n + 1) l) in
    ap (λ x. option_or first x) (fault_append then (n + 1) ls ms)
    ∙ or_assoc first (fault_from then (n + 1) ls) _
    ∙ ap (λ m. option_or (option_or first (fault_from then (n + 1) ls)) (fault_from (kind_after then (n + 1) ls) m ms))
    (sym (one_less n (length ls)))

-- lines that follow others, if the reader has taken those
pub record Follow (r : ArcLines) (ls more : List (List ℕ)) : Type 0 where
  pub kind : kind_after None 0 (ls ++ more) ≡ kind_after r.known r.number more
  pub arcs : arc_lines_from None 0 (ls ++ more) ≡ arc_lines_from None 0 ls ++ arc_lines_from r.known r.number more
  pub fault : fault_from None 0 (ls ++ more) ≡ fault_from r.known r.number more
  pub number : length (ls ++ more) ≡ r.number + length more

pub follow : (r : ArcLines) (ls more : List (List ℕ)) → HasLines r ls → r.fault ≡ None → Follow r ls more
follow r ls more h none =
    let number : length ls ≡ r.number = h.number_is ∙ rw none (none_more r.number) in
    let zero : 0 + length ls ≡ r.number = omega (arith, number) in
    let fine : fault_from None 0 ls ≡ None = sym h.fault_is ∙ rw none in
    let known = sym h.known_is in
    record {
      kind = kind_append None 0 ls more ∙ rw (zero, known);
      arcs = arcs_append None 0 ls more ∙ rw (zero, known);
      fault = fault_append None 0 ls more ∙ rw (zero, known, fine);
      number = length-append ls more ∙ rw number;
    }

-- one more line, of which a reader knows what it reads as
pub grows : (old new : ArcLines) (ls : List (List ℕ)) (l : List ℕ) (read : Result Line Code) (front out : List ArcLine)
    → HasLines old ls → old.fault ≡ None → read_by_itself old.known (old.number + 1) l ≡ read
    → new.known ≡ kind_then old.known read → old.number + 1 ≡ new.number + cond (is_some new.fault) 1 0
    → option_map (λ (code : Code). (new.number + 1, code)) new.fault ≡ fault_read (old.number + 1) read
    → new.number < 2 ^ 63 - 1 → out ≡ front ++ arc_line_read (old.number + 1) read
    → Adds new ls (l ∷ []) front out
grows old new ls l read front out h none is known number fault few out_is =
    let f = follow old ls (l ∷ []) h none in
    record {
      read = record {
        known_is = known ∙ sym (f.kind ∙ ap (kind_then old.known) is);
        number_is = f.number ∙ number;
        few = few;
        fault_is = fault ∙ sym (f.fault ∙ or_none _ ∙ ap (fault_read (old.number + 1)) is);
      };
      rows = arc_line_read (old.number + 1) read;
      out_is = out_is;
      rows_are =
          f.arcs
          ∙ ap (λ x. arc_lines_from None 0 ls ++ x) (append-nil _ ∙ ap (arc_line_read (old.number + 1)) is);
    }
