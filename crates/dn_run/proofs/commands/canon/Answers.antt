use Rattle.std.proofs.Common.{refl, inl}
use Rattle.dn_run.proofs.CommandLaws.{canon_after, canon_unread, canon_unwritten, unwritten_answers}
use Rattle.dn_run.proofs.OutcomeLaws.{added, does_refuse, on_read, passed_on}
use Rattle.dn_instance.proofs.ValidLaws.{reads_valid}
use Rattle.dn_canon.specs.Prints.{print}
use Rattle.dn_run.specs.Answers.{Done}
use Rattle.dn_run.proofs.commands.canon.Goals as goal

pub returns-in-Ok : goal.returns-in-Ok
returns-in-Ok g c =
    rw c.release.ensures (record {
      performs = record {
        asks = c.in_ok-held.ensures.asks;
        means = on_read (Done 0) c.in_ok-held.ensures.read (λ e. cc) (λ b I reads is.
            let (J, canon, put) = c.in-Ok.ensures.canon I (reads_valid b I reads) is in
            (I, reads, print J, (refl, (J, record { canon = canon; text_is = refl })), added put.0));
      };
      out_after = (c.in-Ok.ensures.flushed, c.in-Ok.ensures.after);
      answers = refl;
    })

pub returns-in-Err : goal.returns-in-Err
returns-in-Err g c =
    rw c.release.ensures (record {
      performs = record {
        asks = c.in_ok-held.ensures.asks;
        means =
            rw c.unwritten.ensures
            (canon_unwritten c.args.form _ c.in_ok-held.ensures.read c.in-Err.ensures.refusal
            c.in-Err.ensures.canon);
      };
      out_after =
          rw c.unwritten.ensures
          (canon_after g.O.Sink.sink c.args.out.now _ c.args.name.now _ c.in-Err.ensures.after);
      answers =
          rw c.unwritten.ensures (unwritten_answers c.args.form c.args.name.now _ c.in-Err.ensures.refusal);
    })

pub returns-in_err-held : goal.returns-in_err-held
returns-in_err-held g c =
    let (refusal, is, h) = c.in_err-held.ensures.read in
    does_refuse _ _ (passed_on _ _ c.from_residual.ensures.1) is (record {
      asks = c.in_err-held.ensures.asks;
      means = canon_unread c.args.form h;
    }) (refl, inl h.refusal)
