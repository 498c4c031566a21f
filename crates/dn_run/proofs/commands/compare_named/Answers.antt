use Rattle.std.proofs.Common.{refl, inl, inr}
use Rattle.dn_run.proofs.CommandLaws.{compared, found_answers, asked_two}
use Rattle.dn_run.proofs.OutcomeLaws.{does_refuse, left_refused, on_left_read, on_refused, passed_on}
use Rattle.dn_run.proofs.commands.compare_named.Goals as goal

pub returns-in-Ok : goal.returns-in-Ok
returns-in-Ok g c = record {
  performs =
      asked_two c.in_ok-one.ensures.asks c.in_ok-one.ensures.read c.in-Ok.ensures.asks
      (compared c.in_ok-one.ensures.read
      (rw (c.in_ok-one.ensures.asks.keeps c.args.right.now c.requires) at c.in-Ok.ensures.read)
      c.put_compared-found.ensures.found c.put_compared-found.ensures.puts);
  out_after = c.put_compared-found.ensures.out_after;
  answers = found_answers _ _ _ c.put_compared-found.ensures.found;
}

pub returns-in-Err : goal.returns-in-Err
returns-in-Err g c =
    let (refusal, is, h) = c.in-Err.ensures.read in
    does_refuse _ _ refl is
    (asked_two c.in_ok-one.ensures.asks c.in_ok-one.ensures.read c.in-Err.ensures.asks
    (on_left_read _ c.in_ok-one.ensures.read (λ b I reads is. on_refused
    (rw (c.in_ok-one.ensures.asks.keeps c.args.right.now c.requires) at h) (λ x r. r)))) (inr refl, h.refusal)

pub returns-in_err-one : goal.returns-in_err-one
returns-in_err-one g c =
    let (refusal, is, h) = c.in_err-one.ensures.read in
    does_refuse _ _ (passed_on _ _ c.from_residual.ensures.1) is (record {
      mid = c.read_named.new.files;
      first = c.in_err-one.ensures.asks;
      second = inl (record { stays = refl; refused = (refusal, refl) });
      means = left_refused h;
    }) (inl refl, h.refusal)
