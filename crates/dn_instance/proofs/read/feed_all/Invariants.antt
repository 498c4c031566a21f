use Rattle.std.proofs.Common.{◌≤◌, length}
use Rattle.dn_instance.specs.State.SourceResults.{IsFed, IsKept}
use Rattle.dn_instance.proofs.read.feed_all.Given as goal

abbrev pub invariant-loop : goal.invariant-loop
invariant-loop g l = record {
  fed : IsFed g.S.ByteSource.source l.fn.source l.source l.reader;
  count : l.counter ≤ length fed.given;
  kept : IsKept g.K.Keep.keeps (g.K.Keep.kept l.fn.text) (g.K.Keep.kept l.text) fed.given;
}
