-- Lemmas on putting a text into a sink piece by piece.
use Rattle.std.proofs.Common.{◌≡◌, ℕ, ◌+◌, ◌-◌, ◌<◌, List, [], ◌++◌, length, take, drop, Option, Some, None, Result, Ok, Err, IsErr, ap, sym, ◌∙◌, refl, subst, arith, append_assoc, append-nil, take-append-drop}
use Rattle.std.proofs.lemmas.List.{take_all, length-drop, drop-drop}
use Rattle.std.proofs.lemmas.Result.{MatchResult-from_err}
use Rattle.std.proofs.KnownBytes.{Appends-trans, Appends-nil}
use Rattle.std.specs.Io.KnownBytes.{Appends, Keeps}
use Rattle.dn_sink.specs.declared.sink.SinkFault.{SinkFault}
use Rattle.dn_sink.specs.Sinks.{SinkFacts}
use Rattle.dn_sink.specs.Puts.{HasPut, PutsPrefix, Puts}
use Rattle.dn_sink.specs.State.Turns.{Took, Flush}

-- before the first put, the whole text is left
pub put_from : {K : Type 0} {k : SinkFacts K} {a : K} {left all : List ℕ} → left ≡ all → HasPut k a a left all
put_from {K} {k} {a} {left} {all} e = record { put = []; bytes = Appends-nil (k.taken a); whole = e; fine = refl }

-- after a put of n bytes, n at least 1, the rest begins n bytes later
pub put_part : {K : Type 0} (k : SinkFacts K) (a b c : K) (piece : List ℕ) (at n : ℕ)
    → HasPut k a b (drop at piece) piece
    → Took k b c (take (length piece - at) (drop at piece)) n → 0 < n → HasPut k a c (drop (at + n) piece) piece
put_part k a b c piece at n h t some =
    let rest : take (length piece - at) (drop at piece) ≡ drop at piece =
    take_all (length piece - at) (drop at piece) (omega (arith, length-drop at piece)) in
    let next : take n (take (length piece - at) (drop at piece)) ++ drop (at + n) piece ≡ drop at piece =
    ap (λ l. take n l ++ drop (at + n) piece) rest ∙ ap (λ l. take n (drop at piece) ++ l) (sym (drop-drop n at piece))
    ∙ take-append-drop n (drop at piece) in
    record {
      put = h.put ++ take n (take (length piece - at) (drop at piece));
      bytes = Appends-trans (k.taken a) (k.taken b) (k.taken c) h.put _ h.bytes t.bytes;
      whole = append_assoc h.put _ (drop (at + n) piece) ∙ ap (λ l. h.put ++ l) next ∙ h.whole;
      fine = t.fine (λ none. absurd (omega (arith, none, some))) ∙ h.fine;
    }

module _ {K : Type 0} {k : SinkFacts K} {a b c : K} where
  -- after the next piece is put, the rest of the text is left
  pub put_more : {x rest all : List ℕ} → HasPut k a b (x ++ rest) all → HasPut k b c [] x → HasPut k a c rest all
  put_more {x} {rest} {all} h p = record {
    put = h.put ++ p.put;
    bytes = Appends-trans (k.taken a) (k.taken b) (k.taken c) h.put p.put h.bytes p.bytes;
    whole = append_assoc h.put p.put rest ∙ ap (λ l. h.put ++ (l ++ rest)) (sym (append-nil p.put) ∙ p.whole) ∙ h.whole;
    fine = p.fine ∙ h.fine;
  }

  -- if a prefix of the next piece is put, a prefix of the text is
  pub put_stop : (x rest : List ℕ) {all : List ℕ} → HasPut k a b (x ++ rest) all → PutsPrefix k b c x
      → PutsPrefix k a c all
  put_stop x rest {all} h f = record {
    put = h.put ++ f.put;
    left = f.left ++ rest;
    bytes = Appends-trans (k.taken a) (k.taken b) (k.taken c) h.put f.put h.bytes f.bytes;
    whole =
        append_assoc h.put f.put (f.left ++ rest)
        ∙ ap (λ l. h.put ++ l) (sym (append_assoc f.put f.left rest) ∙ ap (λ l. l ++ rest) f.whole)
        ∙ h.whole;
    failed = f.failed;
  }

kept : (a b : Option (List ℕ)) → Keeps a b → Appends a b []
kept None b e = tt
kept (Some x) None e = absurd e
kept (Some x) (Some y) e = e ∙ sym (append-nil x)

-- putting the rest ends a put of the whole text
pub put_last : {K : Type 0} (k : SinkFacts K) (a b c : K) (x all : List ℕ) (r : Result (Unit {0}) SinkFault)
    → HasPut k a b x all → Puts k b c x r → Puts k a c all r
put_last k a b c x all (Ok u) h p = put_more (subst (λ l. HasPut k a b l all) (sym (append-nil x)) h) p
put_last k a b c x all (Err e) h p = put_stop x [] (subst (λ l. HasPut k a b l all) (sym (append-nil x)) h) p

-- a flush ends a put of the whole text
pub put_flushed : {K : Type 0} (k : SinkFacts K) (a b c : K) (all : List ℕ) (r : Result (Unit {0}) SinkFault)
    → HasPut k a b [] all → Flush k b c r → Puts k a c all r
put_flushed k a b c all (Ok u) h f =
    put_last k a b c [] all (Ok u) h
    (record { put = []; bytes = kept (k.taken b) (k.taken c) f.bytes; whole = refl; fine = f.fine })
put_flushed k a b c all (Err e) h f =
    put_last k a b c [] all (Err e) h
    (record { put = []; left = []; bytes = kept (k.taken b) (k.taken c) f.bytes; whole = refl; failed = f.err })

-- a fault of a call is the fault of the whole put
pub stopped : {K : Type 0} {k : SinkFacts K} {a b : K} {all : List ℕ} (r : Result (Unit {0}) SinkFault) → IsErr r
    → PutsPrefix k a b all → Puts k a b all r
stopped r is f = MatchResult-from_err r _ _ is (λ e. f)
