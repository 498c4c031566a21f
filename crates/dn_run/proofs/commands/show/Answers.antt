use Rattle.std.proofs.Common.{refl}
use Rattle.dn_instance.proofs.ValidLaws.{reads_valid}
use Rattle.dn_run.specs.Answers.{Done, Cut}
use Rattle.dn_run.proofs.OutcomeLaws.{added, does_refuse, on_read, on_refused, passed_on}
use Rattle.dn_run.proofs.commands.show.Goals as goal

pub returns-in-Ok : goal.returns-in-Ok
returns-in-Ok g c = record {
  performs = record {
    asks = c.in_ok-held.ensures.asks;
    means = on_read (Done 0) c.in_ok-held.ensures.read (λ e. cc) (λ b I reads is.
        let (t, put, shows) = c.in-Ok.ensures.text in
        (I, reads, t, (refl, shows I (reads_valid b I reads) is), added put));
  };
  out_after = (c.in-Ok.ensures.flushed, c.in-Ok.ensures.text.1.fine);
  answers = refl;
}

pub returns-in-Err : goal.returns-in-Err
returns-in-Err g c = record {
  performs = record {
    asks = c.in_ok-held.ensures.asks;
    means = on_read Cut c.in_ok-held.ensures.read (λ e. cc) (λ b I reads is.
        let (t, part, shows) = c.in-Err.ensures.text in
        (I, reads, 0, t, (refl, shows I (reads_valid b I reads) is), part));
  };
  out_after = c.in-Err.ensures.text.1.failed;
  answers = tt;
}

pub returns-in_err-held : goal.returns-in_err-held
returns-in_err-held g c =
    let (refusal, is, h) = c.in_err-held.ensures.read in
    does_refuse _ _ (passed_on _ _ c.from_residual.ensures.1) is
    (record { asks = c.in_err-held.ensures.asks; means = on_refused h (λ b r. r) }) (refl, h.refusal)
