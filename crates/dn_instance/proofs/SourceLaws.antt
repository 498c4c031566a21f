-- Lemmas on the outcome of reading a source.
use Rattle.dn_instance.specs.State.Helds.{Parsed}
use Rattle.std.proofs.Common.{◌≡◌, ◌⊎◌, inl, inr, ℕ, ◌<◌, ◌≤◌, ◌^◌, List, [], ◌++◌, append_assoc, append-nil, length, Bool, true, false, ◌==◌, Option, Some, None, Result, Ok, Err, refl, sym, ◌∙◌, arith, IfSome, IfOk, IsErrOf, IsTrue}
use Rattle.std.specs.Io.KnownBytes.{Consumes, IsAtEnd}
use Rattle.std.proofs.KnownBytes.{Consumes-trans, Consumes-whole}
use Rattle.std.proofs.lemmas.Bool.{eqb-true, eqb-false}
use Rattle.std.proofs.lemmas.List.{nil_from_length}
use Rattle.dn_line.specs.Pieces.{lines}
use Rattle.dn_line.specs.Sources.{SourceFacts}
use Rattle.dn_instance.specs.declared.refusal.Place.TheVariants as Places
use Rattle.dn_instance.specs.declared.reader.Reader.{Reader}
use Rattle.dn_instance.specs.declared.refusal.Refusal.{Refusal}
use Rattle.dn_instance.specs.declared.refusal.Refusal.TheVariants.{Text, Memory, Read, Endless, Write, CountTooLarge}
use Rattle.dn_instance.specs.Readers.{ended, WantsMemory}
use Rattle.dn_instance.specs.State.ReaderResults.{IsRefused, Outcome, fed_answer}
use Rattle.dn_instance.specs.SourceReads.{AfterPulls, CleanSoFar, GaveLast, PulledWhileClean, RanOut, after_pulls}
use Rattle.dn_instance.specs.State.FedSources.{IsFedAll}
use Rattle.dn_instance.specs.State.SourceResults.{StopsInPiece, StopsAt, SourceLeft, SourceOutcome, Copied, CopyOutcome, HoldsCopied, HoldsKept, HoldsSome, IsFed, IsKept, KeptOutcome}
use Rattle.dn_instance.specs.Texts.{IsClean}
use Rattle.dn_instance.proofs.PieceSteps.{More, ended_more, lines_more}
use Rattle.dn_instance.proofs.ReaderLaws.{reading, refused_on}

-- the complete lines of a prefix are the first lines of the text
front_lines : (given rest : List ℕ) → More (ended given) (lines (given ++ rest))
front_lines given rest =
    let m = ended_more given rest in
    let n = lines_more (given ++ rest) in
    record { rest = m.rest ++ n.rest; whole = rw (n.whole, m.whole) (append_assoc (ended given) m.rest n.rest) }

-- if a text was refused because memory ran out, memory ran out at a line of the last piece, or at the last line
pub ran_out : (t : List ℕ) (left : AfterPulls) → StopsAt t left Memory → RanOut t left
ran_out t left (inl s) =
    inl (record {
      given = s.given;
      piece = s.piece;
      rest = s.rest;
      whole = s.whole;
      rest_is = s.rest_is;
      pulled = s.pulled;
      short = s.short;
      wants = s.refused;
    })
ran_out t left (inr s) = inr (s.at_end, s.refused)

-- a refusal is one after the first `before` lines, if memory ran out only after these
refused_past : (before : ℕ) (ls : List (List ℕ)) (e : Refusal) → IsRefused 0 ls e → (e ≡ Memory → WantsMemory before ls)
    → IsRefused before ls e
refused_past before ls Memory h m = m refl
refused_past before ls (Text (Places.Line number) code) h m = h
refused_past before ls _ h m = h

piece_outcome : (t : List ℕ) (left : AfterPulls) (e : Refusal) → IsRefused 0 (lines t) e → StopsInPiece t left e
    → SourceOutcome t left (Err e)
piece_outcome t left (Text (Places.Line number) code) h s = (h, inl s)
piece_outcome t left Memory h s = inl s
piece_outcome t left _ h s = absurd h

-- what holds of all bytes that a source gave and still gives holds of its bytes, if they are known
given_rest : (old new : Option (List ℕ)) (given : List ℕ) (P : List ℕ → Type 0) → Consumes old new given
    → ((t rest : List ℕ) → t ≡ given ++ rest → new ≡ Some rest → P t) → IfSome old P
given_rest None new given P c f = tt
given_rest (Some t) None given P c f = absurd c
given_rest (Some t) (Some rest) given P c f = f t rest c refl

-- a refusal at a line is not `Read`
pub refused_unread : (n : ℕ) (ls : List (List ℕ)) (e : Refusal) → IsRefused n ls e → e ≡ Read → ⊥
refused_unread n ls e h is = rw is at h

pub not_refused : (o : Option Refusal) → Ok tt ≡ fed_answer o → o ≡ None
not_refused None e = refl
not_refused (Some x) e = cc

-- whether a piece has bytes
pub has_none : (piece : List ℕ) (test : Bool) → test ≡ (length piece == 0) → test ≡ true → piece ≡ []
has_none piece test is e = nil_from_length piece (eqb-true (length piece) 0 (sym is ∙ e))

pub has_some : (piece : List ℕ) (test : Bool) → test ≡ (length piece == 0) → test ≡ false → 0 < length piece
has_some piece test is e = omega (arith, eqb-false (length piece) 0 (sym is ∙ e))

end_outcome : (t : List ℕ) (left : AfterPulls) (r : Result Parsed Refusal) → IsAtEnd left.gives → IsClean (ended t)
    → (r ≡ Err Memory → WantsMemory (length (ended t)) (lines t)) → Outcome t r → SourceOutcome t left r
end_outcome t left (Ok held) e clean m h = (h, e)
end_outcome t left (Err (Text place code)) e clean m h = (h, inr (record { at_end = e; clean = clean; refused = h }))
end_outcome t left (Err Memory) e clean m h = inr (record { at_end = e; clean = clean; refused = m refl })
end_outcome t left _ e clean m h = absurd h

module _ {S : Type 0} (source : SourceFacts S) (old before : S) (r : Reader) (fed : IsFed source old before r) where
  -- no complete line of the bytes given has a fault
  clean : IsClean (ended fed.given)
  clean = (reading r fed.given fed.fine fed.read).read.clean

  clean_so_far : IfSome (source.gives old) (λ t. CleanSoFar t (source.gives before))
  clean_so_far =
      given_rest (source.gives old) (source.gives before) fed.given (λ t. CleanSoFar t (source.gives before)) fed.gave
      (λ t rest whole is. record { given = fed.given; rest = rest; whole = whole; rest_is = is; clean = clean })

  pulled : (new : S) → (new ≡ before) ⊎ source.Pulls before new → PulledWhileClean source old new
  pulled new last = record { before = before; pulls = fed.pulls; clean = clean_so_far; last = last }

  -- how the source is left, after no more pull or after one more
  pub left_here : {A : Type 0} (result : Result A Refusal) → (IsErrOf result Read → ⊥)
      → SourceLeft source old before result
  left_here result unread =
      record { read = λ is. absurd (unread is); stays = fed.stays; pulls = pulled before (inl refl) }

  pub left_on : {A : Type 0} (new : S) (result : Result A Refusal) → source.Pulls before new
      → (IsTrue (source.has_failed before) → IsTrue (source.has_failed new))
      → (IsErrOf result Read → IsTrue (source.has_failed new)) → SourceLeft source old new result
  left_on new result more stays read =
      record { read = read; stays = λ failed. stays (fed.stays failed); pulls = pulled new (inr more) }

  -- the outcome of a source that does not end
  pub endless : (count : ℕ) → count ≤ length fed.given → 2 ^ 40 ≤ count
      → IfSome (source.gives old) (λ t. SourceOutcome t (after_pulls source old before) (Err Endless))
  endless count h k =
      given_rest (source.gives old) (source.gives before) fed.given
      (λ t. SourceOutcome t (after_pulls source old before) (Err Endless)) fed.gave (λ t rest whole is. (
        record { given = fed.given; rest = rest; whole = whole; rest_is = is; clean = clean },
        omega arith,
      ))

  pub given_more : (new : S) (piece : List ℕ) → Consumes (source.gives before) (source.gives new) piece
      → Consumes (source.gives old) (source.gives new) (fed.given ++ piece)
  given_more new piece c = Consumes-trans _ _ _ fed.given piece fed.gave c

  -- an empty piece adds no bytes
  pub given_all : (new : S) (piece : List ℕ) → piece ≡ [] → Consumes (source.gives before) (source.gives new) piece
      → Consumes (source.gives old) (source.gives new) fed.given
  given_all new piece none c = rw (none, append-nil fed.given) at (given_more new piece c)

  -- the outcome of a source that is at its end
  pub finished : (new : S) (a : Result Parsed Refusal) → Consumes (source.gives old) (source.gives new) fed.given
      → IsAtEnd (source.gives new) → Outcome fed.given a
      → (a ≡ Err Memory → WantsMemory (length (ended fed.given)) (lines fed.given))
      → IfSome (source.gives old) (λ t. SourceOutcome t (after_pulls source old new) a)
  finished new a c e h m =
      Consumes-whole (source.gives old) (source.gives new) fed.given
      (λ t. SourceOutcome t (after_pulls source old new) a) c e
      (end_outcome fed.given (after_pulls source old new) a e clean m h)

  module _ (new : S) (piece : List ℕ) (more : source.Pulls before new)
      (c : Consumes (source.gives before) (source.gives new) piece) (short : length piece ≤ 2 ^ 12) where
    last : GaveLast source old new fed.given piece
    last = record { before = before; pulls = fed.pulls; gave = fed.gave; last = more; gave_last = c }

    -- the outcome of a text that is refused at a piece
    pub refused : (e : Refusal) → IsRefused 0 (ended (fed.given ++ piece)) e
        → (e ≡ Memory → WantsMemory (length (ended fed.given)) (ended (fed.given ++ piece)))
        → IfSome (source.gives old) (λ t. SourceOutcome t (after_pulls source old new) (Err e))
    refused e h m =
        let all = fed.given ++ piece in
        given_rest (source.gives old) (source.gives new) all
        (λ t. SourceOutcome t (after_pulls source old new) (Err e)) (given_more new piece c) (λ t rest whole is.
        piece_outcome t (after_pulls source old new) e (refused_on 0 0 (ended all) (lines t) e (omega arith)
        (rw whole (front_lines all rest)) h) (record {
          given = fed.given;
          piece = piece;
          rest = rest;
          whole = whole ∙ append_assoc fed.given piece rest;
          rest_is = is;
          pulled = last;
          short = short;
          clean = clean;
          refused = refused_past (length (ended fed.given)) (ended all) e h m;
        }))

-- the outcome of a source whose bytes a reader has read
pub fed_all : {S : Type 0} (source : SourceFacts S) (old new : S) (r : Reader) (given : List ℕ)
    (a : Result Parsed Refusal)
    → IsFedAll source old new r given → Outcome given a
    → (a ≡ Err Memory → WantsMemory (length (ended given)) (lines given))
    → IfSome (source.gives old) (λ t. SourceOutcome t (after_pulls source old new) a)
fed_all source old new r given a w h m =
    Consumes-whole (source.gives old) (source.gives new) given (λ t. SourceOutcome t (after_pulls source old new) a)
    w.gave w.at_end
    (end_outcome given (after_pulls source old new) a w.at_end (reading r given w.fine w.read).read.clean m h)

-- what is kept after one more piece
pub kept_more : (keeps : Bool) (old mid new given piece : List ℕ) → IsKept keeps old mid given
    → IsKept keeps mid new piece → IsKept keeps old new (given ++ piece)
kept_more keeps old mid new given piece h k is = rw (k is, h is) (append_assoc old given piece)

-- the outcome if all bytes that the source gave are kept, if bytes are kept
pub kept : (keeps : Bool) (old new : Option (List ℕ)) (left : AfterPulls) (given old_copy new_copy : List ℕ)
    (r : Result Parsed Refusal) → left.gives ≡ new → Consumes old new given → IsKept keeps old_copy new_copy given
    → IfSome old (λ t. SourceOutcome t left r) → IfSome old (λ t. KeptOutcome keeps t left old_copy new_copy r)
kept keeps None new left given old_copy new_copy r l c k h = tt
kept keeps (Some t) None left given old_copy new_copy r l c k h = absurd c
kept keeps (Some t) (Some rest) left given old_copy new_copy r l c k h =
    inl (h, λ is. record { given = given; rest = rest; whole = c; rest_is = l; copy = k is })

-- the outcome if no bytes are kept
pub unkept : (old : Option (List ℕ)) (left : AfterPulls) (old_copy new_copy : List ℕ) (r : Result Parsed Refusal)
    → IfSome old (λ t. KeptOutcome false t left old_copy new_copy r) → IfSome old (λ t. SourceOutcome t left r)
unkept None left old_copy new_copy r h = tt
unkept (Some t) left old_copy new_copy r (inl h) = h.0
unkept (Some t) left old_copy new_copy r (inr h) = cc h.1

pub unkept_held : (old_copy new_copy : List ℕ) (a : Result Parsed Refusal) → IfOk a (HoldsKept false old_copy new_copy)
    → IfOk a HoldsSome
unkept_held old_copy new_copy (Ok held) h = (h.0, h.1)
unkept_held old_copy new_copy (Err e) h = tt

copy_outcome : (t : List ℕ) (left : AfterPulls) (old_copy new_copy : List ℕ) (r : Result Parsed Refusal)
    → SourceOutcome t left r → Copied t left.gives old_copy new_copy → CopyOutcome t left old_copy new_copy r
copy_outcome t left old_copy new_copy (Err Memory) h k = inl (h, k)
copy_outcome t left old_copy new_copy (Err Write) h k = absurd h
copy_outcome t left old_copy new_copy (Err CountTooLarge) h k = absurd h
copy_outcome t left old_copy new_copy _ h k = (h, k)

-- the outcome if bytes are kept
pub copied : (old : Option (List ℕ)) (left : AfterPulls) (old_copy new_copy : List ℕ) (r : Result Parsed Refusal)
    → IfSome old (λ t. KeptOutcome true t left old_copy new_copy r)
    → IfSome old (λ t. CopyOutcome t left old_copy new_copy r)
copied None left old_copy new_copy r h = tt
copied (Some t) left old_copy new_copy r (inl h) = copy_outcome t left old_copy new_copy r h.0 (h.1 refl)
copied (Some t) left old_copy new_copy r (inr h) = rw h.0 (inr h.2)

pub copied_held : (old_copy new_copy : List ℕ) (a : Result Parsed Refusal) → IfOk a (HoldsKept true old_copy new_copy)
    → IfOk a (HoldsCopied old_copy new_copy)
copied_held old_copy new_copy (Ok held) h = (h.0, h.1, h.2 refl)
copied_held old_copy new_copy (Err e) h = tt
