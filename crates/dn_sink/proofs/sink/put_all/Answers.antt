use Rattle.std.proofs.Common.{rules, arith}
use Rattle.std.proofs.lemmas.List.{length-drop}
use Rattle.dn_sink.proofs.PutLaws.{put_part}
use Rattle.dn_sink.proofs.sink.put_all.Goals as goal

pub loop-at-preserved : goal.loop-at-preserved
loop-at-preserved g c = record {
  within = omega (arith, c.in_ok-n.ensures.ok.bound, length-drop c.loop-at.at c.args.piece.now);
  has = put_part g.K.Sink.sink c.args.sink.now c.loop-at.sink c.put.new.self c.args.piece.now c.loop-at.at c.in_ok-n.n
      c.loop-at.invariant.has c.in_ok-n.ensures.ok (omega (arith, c.if-n-eq0.false));
}

pub loop-at-init : goal.loop-at-init
loop-at-init g c = search rules
