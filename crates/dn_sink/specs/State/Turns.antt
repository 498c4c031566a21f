-- What one call does to a sink.
use Rattle.std.specs.Prelude.{◌≡◌, ℕ, ◌<◌, ◌≤◌, List, length, take, Result, IsTrue, IfOk, OnOk, OnErr}
use Rattle.std.specs.Io.KnownBytes.{Appends, Keeps}
use Rattle.dn_sink.specs.Sinks.{SinkFacts}
use Rattle.dn_sink.specs.declared.sink.SinkFault.{SinkFault}

module _ {S : Type 0} (sink : SinkFacts S) (old new : S) where
  -- the sink took the first n bytes of the piece, as far as its bytes are known. It has failed if it took none of a
  -- non-empty piece; otherwise whether it has failed did not change
  pub record Took (piece : List ℕ) (n : ℕ) : Type 0 where
    pub bound : n ≤ length piece
    pub bytes : Appends (sink.taken old) (sink.taken new) (take n piece)
    pub none : n ≡ 0 → 0 < length piece → IsTrue (sink.has_failed new)
    pub fine : (n ≡ 0 → length piece ≡ 0) → sink.has_failed new ≡ sink.has_failed old

  -- the sink took no bytes, and has failed
  pub record Refused : Type 0 where
    pub bytes : Keeps (sink.taken old) (sink.taken new)
    pub failed : IsTrue (sink.has_failed new)

  -- what a put of a piece does to the sink
  pub record Turn (piece : List ℕ) (result : Result ℕ SinkFault) : Type 0 where
    pub ok : IfOk result (Took piece)
    pub err : OnErr result Refused

  -- what a flush does to the sink: it takes no bytes. On `Ok` it has passed on all that it took, and whether it has
  -- failed did not change. On a fault it has failed
  pub record Flush (result : Result (Unit {0}) SinkFault) : Type 0 where
    pub flushed : OnOk result (IsTrue (sink.is_flushed new))
    pub fine : OnOk result (sink.has_failed new ≡ sink.has_failed old)
    pub bytes : Keeps (sink.taken old) (sink.taken new)
    pub err : OnErr result (IsTrue (sink.has_failed new))
