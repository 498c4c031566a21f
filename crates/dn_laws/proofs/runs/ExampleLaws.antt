-- Lemmas on the worked runs.
use Rattle.std.proofs.Common.{◌≡◌, ℕ, List, [], Result, Ok, Err, append-nil, sym, ◌∙◌}
use Rattle.dn_instance.specs.Instances.{Instance}
use Rattle.dn_instance.specs.Texts.{Reads}
use Rattle.dn_instance.proofs.ValidLaws.{some_is}
use Rattle.dn_sink.specs.Puts.{Puts}
use Rattle.dn_sink.specs.declared.sink.SinkFault.{SinkFault}
use Rattle.dn_run.specs.Streams.{TakesLine}
use Rattle.dn_laws.specs.State.RunExamples.{kept, took}

-- a sink that never fails took the whole line
pub took_line : (err line : List ℕ) → TakesLine (took err) line → err ≡ line
took_line err line t = by_result t.result t.puts
  where
    by_result : (r : Result (Unit {0}) SinkFault) → Puts kept [] err line r → err ≡ line
    by_result (Ok x) p = p.bytes ∙ sym (append-nil p.put) ∙ p.whole
    by_result (Err f) p = cc (p.failed)

-- a text reads as one instance at most
pub one_instance : (b : List ℕ) (I J : Instance) → Reads b I → Reads b J → I ≡ J
one_instance b I J r s = some_is I J (sym r.instance_is ∙ s.instance_is)
