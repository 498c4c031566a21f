-- Lemmas on putting a text into a sink through a block.
use Rattle.std.proofs.Common.{refl, ◌≡◌, ℕ, List, [], ◌++◌, Result, Ok, Err, IsErr, ◌∙◌, append_assoc, append-nil}
use Rattle.std.proofs.lemmas.Result.{MatchResult-from_err}
use Rattle.std.proofs.KnownBytes.{Appends-trans}
use Rattle.dn_sink.specs.declared.sink.SinkFault.{SinkFault}
use Rattle.dn_sink.specs.Puts.{HasPut, PutsPrefix, Puts}
use Rattle.dn_canon.specs.State.Blocks.{Passes}
use Rattle.dn_sink.specs.Sinks.{SinkFacts}
use Rattle.dn_sink.proofs.PutLaws.{put_from, put_stop, put_last}

module _ {K : Type 0} {sink : SinkFacts K} {a b : K} where
  -- a prefix of a text is a prefix of each longer text
  pub prefix_more : {x : List ℕ} (y : List ℕ) → PutsPrefix sink a b x → PutsPrefix sink a b (x ++ y)
  prefix_more {x} y f = put_stop x y (put_from refl) f

  -- a fault of a call is the fault of the whole pass
  pub pass_stopped : (block : List ℕ) {all : List ℕ} (r : Result (Unit {0}) SinkFault) → IsErr r
      → PutsPrefix sink a b all → Passes sink a b block all r
  pass_stopped block {all} r is f = MatchResult-from_err r _ _ is (λ e. f)

  -- appending a text to the whole text appends it to the rest
  longer : {left all : List ℕ} (rest : List ℕ) → HasPut sink a b left all
      → HasPut sink a b (left ++ rest) (all ++ rest)
  longer {left} {all} rest h = record {
    put = h.put;
    bytes = h.bytes;
    whole = rw (← append_assoc h.put left rest, h.whole);
    fine = h.fine;
  }

  -- a line that is appended after room was made passes through the block
  pub line_passes : {before after all : List ℕ} (line : List ℕ) → after ≡ before ++ line → HasPut sink a b before all
      → HasPut sink a b after (all ++ line)
  line_passes line e h = rw e (longer line h)

  -- if no text follows the block, the block is the rest
  pub all_done : {all : List ℕ} (block left : List ℕ) → left ≡ [] → HasPut sink a b (block ++ left) all
      → HasPut sink a b block all
  all_done block left e h = rw (e, append-nil) at h

module _ {K : Type 0} {sink : SinkFacts K} {a b c : K} where
  -- if x is the rest of a text, and y the rest of x, then y is the rest of the text
  pub pass_on : {x y all : List ℕ} → HasPut sink a b x all → HasPut sink b c y x → HasPut sink a c y all
  pass_on {x} {y} {all} h p = record {
    put = h.put ++ p.put;
    bytes = Appends-trans (sink.taken a) (sink.taken b) (sink.taken c) h.put p.put h.bytes p.bytes;
    whole = rw (append_assoc h.put p.put y, p.whole) h.whole;
    fine = p.fine ∙ h.fine;
  }

  -- a part x of the rest passes through the block
  pub pass_more : {after all : List ℕ} (before x rest : List ℕ) → HasPut sink a b (before ++ (x ++ rest)) all
      → HasPut sink b c after (before ++ x) → HasPut sink a c (after ++ rest) all
  pass_more before x rest h p = pass_on (rw append_assoc h) (longer rest p)

  -- if a prefix of the block and the part x is put, a prefix of the text is put
  pub pass_stop : {all : List ℕ} (before x rest : List ℕ) → HasPut sink a b (before ++ (x ++ rest)) all
      → PutsPrefix sink b c (before ++ x) → PutsPrefix sink a c all
  pass_stop before x rest h f = put_stop (before ++ x) rest (rw append_assoc h) f

module _ {K : Type 0} {sink : SinkFacts K} {a b : K} (c : K) where
  -- if x is the rest of a text, what a call does with x it does with the text
  pub pass_last : {x all : List ℕ} (block : List ℕ) (r : Result (Unit {0}) SinkFault) → HasPut sink a b x all
      → Passes sink b c block x r → Passes sink a c block all r
  pass_last block (Ok u) h p = pass_on h p
  pass_last {x} block (Err e) h p = put_stop x [] (rw append-nil h) p

  -- putting the bytes of the last block ends a put of the whole text
  pub put_block : {bytes block all : List ℕ} (r : Result (Unit {0}) SinkFault) → bytes ≡ block
      → HasPut sink a b block all → Puts sink b c bytes r → Puts sink a c all r
  put_block r e h p = put_last sink a b c _ _ r (rw e h) p
