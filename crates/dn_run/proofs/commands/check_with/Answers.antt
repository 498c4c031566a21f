use Rattle.std.proofs.Common.{refl, sym, inl, inr}
use Rattle.dn_run.proofs.CommandLaws.{fits, asked_two}
use Rattle.dn_instance.proofs.ValidLaws.{reads_valid}
use Rattle.dn_run.proofs.OutcomeLaws.{does_refuse, left_refused, on_left_read, on_read, on_refused, passed_on}
use Rattle.dn_run.proofs.commands.check_with.Goals as goal

pub returns-in-Ok-fits : goal.returns-in-Ok-fits
returns-in-Ok-fits g c = record {
  performs =
      asked_two c.in_ok-graph.ensures.asks c.in_ok-graph.ensures.read.read c.in-Ok.ensures.asks
      (fits c.in_ok-graph.ensures.read.read
      (rw (c.in_ok-graph.ensures.asks.keeps c.args.companion.now c.requires) at c.in-Ok.ensures.read)
      c.deref.ensures.value c.in_ok-graph.ensures.read.same c.in_ok-graph.ensures.read.copied c.in-Ok-fits.ensures
      c.kind-with.ensures c.put_check-put.ensures.puts);
  out_after = c.put_check-put.ensures.out_after;
  answers = c.put_check-put.ensures.answers _ _;
}

pub returns : goal.returns
returns g c =
    let (refusal, is, h) = c.in-Err.ensures.read in
    does_refuse _ _ refl is
    (asked_two c.in_ok-graph.ensures.asks c.in_ok-graph.ensures.read.read c.in-Err.ensures.asks
    (on_left_read _ c.in_ok-graph.ensures.read.read (λ b I reads is. on_refused
    (rw (c.in_ok-graph.ensures.asks.keeps c.args.companion.now c.requires) at h) (λ x r. r))))
    (inr refl, h.refusal)

pub returns-in_err-graph : goal.returns-in_err-graph
returns-in_err-graph g c =
    let (refusal, is, h) = c.in_err-graph.ensures.read in
    does_refuse _ _ (passed_on _ _ c.from_residual.ensures.1) is (record {
      mid = c.copy_named.new.files;
      first = c.in_err-graph.ensures.asks;
      second = inl (record { stays = refl; refused = (refusal, refl) });
      means = left_refused h.read;
    }) (inl refl, h.read.refusal)

pub returns-in-Ok : goal.returns-in-Ok
returns-in-Ok g c = record {
  performs =
      asked_two c.in_ok-graph.ensures.asks c.in_ok-graph.ensures.read.read c.in-Ok.ensures.asks
      (on_left_read _ c.in_ok-graph.ensures.read.read (λ b I reads is. on_read _
      (rw (c.in_ok-graph.ensures.asks.keeps c.args.companion.now c.requires) at c.in-Ok.ensures.read) (λ e. cc)
      (λ x J reads' is'. (
        J,
        reads',
        refl,
        sym (c.in-Err-fits.ensures I J (reads_valid b I reads) (reads_valid x J reads') is is'),
      ))));
  out_after = refl;
  answers = refl;
}
