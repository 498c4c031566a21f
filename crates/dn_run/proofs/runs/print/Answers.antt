use Rattle.std.proofs.Common.{refl, inl}
use Rattle.dn_run.specs.Answers.{Done}
use Rattle.dn_run.proofs.OutcomeLaws.{added}
use Rattle.dn_run.proofs.runs.print.Goals as goal

pub returns-in-Ok : goal.returns-in-Ok
returns-in-Ok g c = record {
  answer = Done 0;
  status_is = refl;
  puts = inl (refl, rw c.as_bytes.ensures.value at (added c.in-Ok.ensures.puts));
  out_after = (c.in-Ok.ensures.flushed, c.in-Ok.ensures.puts.fine);
  tells = refl;
}
