use Rattle.std.proofs.Common.{refl, inl}
use Rattle.dn_run.proofs.CommandLaws.{checked}
use Rattle.dn_run.proofs.OutcomeLaws.{does_refuse, on_refused, passed_on}
use Rattle.dn_run.proofs.commands.check.Goals as goal

pub returns : goal.returns
returns g c = record {
  performs = record {
    asks = c.in_ok-held.ensures.asks;
    means =
        checked c.deref.ensures.value c.in_ok-held.ensures.read.read
        c.in_ok-held.ensures.read.same c.in_ok-held.ensures.read.copied
        c.put_check-put.ensures.found c.put_check-put.ensures.puts;
  };
  out_after = c.put_check-put.ensures.out_after;
  answers = c.put_check-put.ensures.answers _ _;
}

pub returns-in_err-held : goal.returns-in_err-held
returns-in_err-held g c =
    let (refusal, is, h) = c.in_err-held.ensures.read in
    does_refuse _ _ (passed_on _ _ c.from_residual.ensures.1) is
    (record { asks = c.in_err-held.ensures.asks; means = on_refused h.read (λ b r. r) })
    (inl refl, h.read.refusal)
