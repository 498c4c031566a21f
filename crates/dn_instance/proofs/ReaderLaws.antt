-- Lemmas on what a reader has read, and on a reader that takes rows at the beginning of a piece.
use Rattle.dn_instance.specs.State.Helds.{Parsed}
use Rattle.std.proofs.Common.{◌≡◌, ℕ, ◌+◌, ◌-◌, ◌≤◌, List, [], ◌∷◌, ◌++◌, length, take, drop, Option, Some, None, Ok, Err, Result, MatchOption, inl, inr, refl, sym, ap, ◌∙◌, subst, arith, length-append, append-nil, append_assoc, pos, take_all}
use Rattle.std.proofs.Math.Nat.{add-sub_cancel}
use Rattle.std.proofs.Math.Seq.{take-append_seam}
use Rattle.std.proofs.lemmas.List.{take-append-le}
use Rattle.dn_line.specs.declared.code.Code.{Code}
use Rattle.dn_line.specs.Words.{said_words}
use Rattle.dn_line.specs.Pieces.{lines, parts, is_line_feed}
use Rattle.dn_instance.specs.declared.refusal.ItemFault.{ItemFault}
use Rattle.dn_instance.specs.declared.refusal.ItemFault.TheVariants as Faults
use Rattle.dn_instance.specs.declared.refusal.Place.TheVariants as Places
use Rattle.dn_instance.specs.declared.reader.Reader.{Reader}
use Rattle.dn_instance.specs.declared.refusal.Refusal.{Refusal}
use Rattle.dn_instance.specs.declared.refusal.Refusal.TheVariants.{Text, Memory}
use Rattle.dn_instance.specs.State.ItemFaults.{AnswersFault}
use Rattle.dn_instance.specs.Readers.{ended}
use Rattle.dn_instance.specs.State.ReaderResults.{lines_taken, IsNext, IsRefused, Fed, Outcome, fed_answer}
use Rattle.dn_instance.specs.State.ReaderStates.{StopsIn, ClosesLine, TakesAll, TakesBlock, StopsAfter, IsReading, ReaderAt, Advances, HasOpen, open_of}
use Rattle.dn_instance.specs.State.LineRefusals.{refused_at}
use Rattle.dn_instance.specs.TextFaults.{line_fault}
use Rattle.dn_instance.specs.Texts.{items_of, IsClean, IsFirstFaultAt}
use Rattle.dn_instance.specs.State.TextsSoFar.{TextAt, AreInner, NeedsAfter, ReadsOn, closed_lines, fault_after}
use Rattle.dn_instance.proofs.FirstFaults.{first_on}
use Rattle.dn_instance.proofs.CleanItems.{split, clean_more}
use Rattle.dn_instance.proofs.PieceSteps.{More, ended_more, lines_more, rest_of, step_on, whole_of, closed_more, closed_push, inner_push}
use Rattle.dn_instance.proofs.SizeLaws.{problem_sized}
use Rattle.dn_instance.specs.State.Ends.{EndsWith}
use Rattle.dn_instance.specs.declared.text_so_far.TextSoFar.{TextSoFar}
use Rattle.dn_line.proofs.PartsLaws.{Parts}

-- the fault of a line that follows lines without a fault is the first fault
fault_first : (ls : List (List ℕ)) (l : List ℕ) (code : Code) → IsClean ls
    → line_fault (length ls + 1) (items_of ls) (said_words l) ≡ Some code
    → IsFirstFaultAt (ls ++ l ∷ []) (length ls + 1) code
fault_first ls l code clean f = record {
  at = record { before = ls; line = l; after = []; lines_are = refl; number_is = refl; fault_is = f };
  first = λ other fault g. elim (split ls g.before g.after l g.line g.lines_are) [
    | inl e ↦ omega (arith, ap length e.0, g.number_is)
    | inr (a, e) ↦
        absurd
        (clean other fault
        (record
        { before = g.before; line = g.line; after = a; lines_are = e; number_is = g.number_is; fault_is = g.fault_is }))
  ];
}

-- the next line is refused
refused_next : (ls : List (List ℕ)) (l : List ℕ) (fault : ItemFault) → IsClean ls
    → AnswersFault (Err fault) (fault_after ls l) → (fault ≡ Faults.Memory → NeedsAfter ls l)
    → (let e = refused_at (length ls + 1) fault in let all = ls ++ l ∷ [] in
    IsRefused (length ls) all e × IsNext (length ls) all e)
refused_next ls l (Faults.Text code) clean h item = (fault_first ls l code clean h, refl)
refused_next ls l Faults.Memory clean h item =
    let all = length-append ls (l ∷ []) in
    let more = clean_more ls l clean h in (
      record {
        earlier = ls;
        line = l;
        later = [];
        whole = refl;
        past = omega arith;
        item = item refl;
        clean = more;
      },
      (omega (arith, all), rw (take_all (length ls + 1) (ls ++ l ∷ []) (omega (arith, all))) more),
    )

-- later lines do not change a refusal
pub refused_on : (before earlier : ℕ) (ls ms : List (List ℕ)) (e : Refusal) → earlier ≤ before → More ls ms
    → IsRefused before ls e → IsRefused earlier ms e
refused_on before earlier ls ms (Text (Places.Line number) code) b m f = rw m.whole (first_on ls m.rest number code f)
refused_on before earlier ls ms Memory b m w = record {
  earlier = w.earlier;
  line = w.line;
  later = w.later ++ m.rest;
  whole = rw (m.whole, w.whole) (append_assoc w.earlier (w.line ∷ w.later) m.rest);
  past = omega (arith, w.past);
  item = w.item;
  clean = w.clean;
}
refused_on before earlier ls ms _ b m f = absurd f

-- the same lines
pub all_same : (ls : List (List ℕ)) → More ls ls
all_same ls = record { rest = []; whole = sym (append-nil ls) }

-- what a reader with this refusal represents, if there is one
abbrev At : Reader → List ℕ → Option Refusal → Type 0
At r t o = MatchOption o (IsReading r t) (λ x. IsRefused 0 (ended t) x × StopsIn r (ended t) x)

-- a reader without a refusal has read the bytes that it represents
pub reading : (r : Reader) (t : List ℕ) → r.refusal ≡ None → ReaderAt r t → IsReading r t
reading r t e h = subst (At r t) e h

pub stands : (r : Reader) (t : List ℕ) → r.refusal ≡ None → IsReading r t → ReaderAt r t
stands r t e h = subst (At r t) (sym e) h

-- a reader with a refusal represents bytes with a refused line
pub refused : (r : Reader) (t : List ℕ) (x : Refusal) → r.refusal ≡ Some x → ReaderAt r t → IsRefused 0 (ended t) x
    × StopsIn r (ended t) x
refused r t x e h = subst (At r t) e h

pub refuses : (r : Reader) (t : List ℕ) (x : Refusal) → r.refusal ≡ Some x → IsRefused 0 (ended t) x
    × StopsIn r (ended t) x → ReaderAt r t
refuses r t x e h = subst (At r t) (sym e) h

-- what a reader returns for the text so far
pub fed : (r : Reader) (t : List ℕ) → ReaderAt r t → Fed t (fed_answer r.refusal)
fed r t h = by_refusal r.refusal refl
  where
    by_refusal : (o : Option Refusal) → r.refusal ≡ o → Fed t (fed_answer o)
    by_refusal None e = (reading r t e h).read.clean
    by_refusal (Some x) e = (refused r t x e h).0

-- a reader takes a last line without an LF
pub takes_last : (r : Reader) (t bytes : List ℕ) (x : Result (Unit {0}) Refusal) → lines t ≡ ended t ++ bytes ∷ []
    → ClosesLine r (ended t) bytes x → TakesAll r t x
takes_last r t bytes (Ok x) e h = rw e h
takes_last r t bytes (Err x) e h = rw e h.1

next_on : (taken : ℕ) (ls ms : List (List ℕ)) (e : Refusal) → More ls ms → IsNext taken ls e → IsNext taken ms e
next_on taken ls ms (Text (Places.Line number) code) m n = n
next_on taken ls ms Memory m n = (
  omega (arith, ap length m.whole, length-append ls m.rest, n.0),
  rw (m.whole, take-append-le (taken + 1) ls m.rest (omega (arith, n.0))) n.1,
)
next_on taken ls ms _ m n = absurd n

-- later lines do not change which lines before the refused line are read
pub stops_on : (r : Reader) (ls ms : List (List ℕ)) (e : Refusal) → More ls ms → StopsIn r ls e → StopsIn r ms e
stops_on r ls ms e m s =
    record {
      before = s.before;
      rest = s.rest ++ m.rest;
      whole = rw (m.whole, s.whole) (append_assoc s.before s.rest m.rest);
      read = s.read;
      next = next_on (length s.before) ls ms e m s.next;
    }

pub refused_after : (r : Reader) (before earlier : ℕ) (ls ms : List (List ℕ)) (e : Refusal) → earlier ≤ before
    → More ls ms → StopsAfter r before ls e → StopsAfter r earlier ms e
refused_after r before earlier ls ms e less m h =
    (h.0, refused_on before earlier ls ms e less m h.1, stops_on r ls ms e m h.2, omega (arith, less, h.3))

pub still_refused : (r : Reader) (t u : List ℕ) (e : Refusal) → r.refusal ≡ Some e → ReaderAt r t → ReaderAt r (t ++ u)
still_refused r t u e is h =
    let was = refused r t e is h in
    let more = ended_more t u in
    refuses r (t ++ u) e is
    (refused_on 0 0 (ended t) (ended (t ++ u)) e (omega arith) more was.0, stops_on r (ended t) _ e more was.1)

-- the next line is refused, and the reader keeps its refusal
pub refuses_next : (r : Reader) (ls : List (List ℕ)) (l : List ℕ) (fault : ItemFault) (e : Refusal) → TextAt r.text ls
    → r.refusal ≡ Some e → e ≡ refused_at (length ls + 1) fault → AnswersFault (Err fault) (fault_after ls l)
    → (fault ≡ Faults.Memory → NeedsAfter ls l) → ClosesLine r ls l (Err e)
refuses_next r ls l fault e at is said answer item =
    let next = refused_next ls l fault at.clean answer item in (
      is,
      rw said next.0,
      record { before = ls; rest = l ∷ []; whole = refl; read = at; next = rw said next.1 },
      at.number_is,
    )

-- what holds of the lines that a refused reader has taken holds of the lines before the refused line
pub before_refused : (r : Reader) (ls : List (List ℕ)) (e : Refusal) (P : List (List ℕ) → Type 0) → StopsIn r ls e
    → ((before : List (List ℕ)) → TextAt r.text before → P before)
    → IsNext (lines_taken r) ls e × P (take (lines_taken r) ls)
before_refused r ls e P s h = (rw s.read.number_is s.next, subst P (sym front) (h s.before s.read))
  where
    front : take (lines_taken r) ls ≡ s.before
    front = rw (s.read.number_is, s.whole) (take-append_seam s.before s.rest)

-- the complete lines after a prefix of a piece are the first complete lines after the piece
pub more_from : (t p : List ℕ) (i n : ℕ) → More (ended ((t ++ take i p) ++ take n (rest_of p i))) (ended (t ++ p))
more_from t p i n =
    rw (whole_of t p (i + n), ← step_on t p i n) (ended_more ((t ++ take i p) ++ take n (rest_of p i)) (drop (i + n) p))

pub more_count : (ls ms : List (List ℕ)) → More ls ms → length ls ≤ length ms
more_count ls ms m = omega (arith, ap length m.whole, length-append ls m.rest)

-- a refusal of first lines of the text is the outcome of the text
pub refused_as : (t : List ℕ) (before : ℕ) (ls : List (List ℕ)) (e : Refusal) → More ls (lines t)
    → IsRefused before ls e → Outcome t (Err e)
refused_as t before ls e m h = listed e (refused_on before 0 ls (lines t) e (omega arith) m h)
  where
    listed : (e : Refusal) → IsRefused 0 (lines t) e → Outcome t (Err e)
    listed (Text (Places.Line number) code) h = h
    listed Memory h = h
    listed _ h = absurd h

pub refused_before : (r : Reader) (t : List ℕ) (e : Refusal) → r.refusal ≡ Some e → ReaderAt r t → Outcome t (Err e)
refused_before r t e is h = refused_as t 0 (ended t) e (lines_more t) (refused r t e is h).0

-- the parsed instance of a whole text represents what the text reads as
pub held_whole : (x : TextSoFar) (t : List ℕ) (held : Parsed) → TextAt x (lines t)
    → EndsWith (items_of (lines t)) (Ok held) → Outcome t (Ok held)
held_whole x t held r e =
    let all = e.1 in
    let size = problem_sized (lines t) all.problem all.instance r.clean all.problem_is all.made in (
      all.instance,
      record { clean = r.clean; whole = e.0; instance_is = rw all.problem_is all.made },
      record { nodes_are = all.nodes_are ∙ size.0; lines_are = all.lines_are ∙ ap pos size.1; shows = all.shows },
    )

-- lines at the beginning of a piece have been read after a text without an open line
pub with_lines : (r : Reader) (t piece end : List ℕ) → HasOpen r.line (open_of t) → open_of t ≡ []
    → ReadsOn r.text (ended t) piece end → IsReading r (t ++ take (length piece - length end) piece)
with_lines r t piece end line none f =
    let all =
    ap (λ x. parts is_line_feed (t ++ x)) (before_front (closed_lines f.more) end piece f.whole)
    ∙ closed_more t f.more none f.inner in
    record {
      read = subst (TextAt r.text) (sym (ap (λ (p : Parts). p.0) all)) f.read;
      line = subst (HasOpen r.line) (none ∙ sym (ap (λ (p : Parts). p.1) all)) line;
    }
  where
    before_front : (a b c : List ℕ) → a ++ b ≡ c → take (length c - length b) c ≡ a
    before_front a b c e = rw (← e, length-append a b, add-sub_cancel (length a) (length b)) (take-append_seam a b)

-- lines with their LFs that follow the complete lines are the first complete lines of what follows
more_on : (t : List ℕ) (all : List (List ℕ)) (rest piece : List ℕ) → open_of t ≡ [] → AreInner all
    → closed_lines all ++ rest ≡ piece → More (ended t ++ all) (ended (t ++ piece))
more_on t all rest piece none inner e =
    rw (← e, ← append_assoc, ← ap (λ (p : Parts). p.0) (closed_more t all none inner))
    (ended_more (t ++ closed_lines all) rest)

-- a line of a block at the beginning of the piece is refused
pub block_refused : (r : Reader) (t piece end : List ℕ) (e : Refusal) → open_of t ≡ []
    → TakesBlock r (ended t) piece end (Err e) → (n : ℕ) × Unit {0} × Advances r t (t ++ take n piece) (Err e)
block_refused r t piece end e none (l, rest, on, inner, closes) =
    let ls = ended t ++ on.more in
    let all = on.more ++ l ∷ [] in
    let whole : closed_lines all ++ rest ≡ take (length piece) piece =
    rw (closed_push on.more l, append_assoc, append_assoc, on.whole)
    (sym (take_all (length piece) piece (omega arith))) in
    let m : More (ls ++ l ∷ []) (ended (t ++ take (length piece) piece)) =
    rw append_assoc (more_on t all rest _ none (inner_push on.more l on.inner inner) whole) in (
      length piece,
      tt,
      refused_after r (length ls) _ _ _ e (omega (arith, length-append (ended t) on.more)) m
          (closes.0, closes.1, closes.2, omega (arith, closes.3)),
    )
