use Rattle.dn_run.proofs.OutcomeLaws.{line_taken}
use Rattle.dn_run.proofs.runs.refuse_words.Goals as goal

pub returns-clause-said : goal.returns-clause-said
returns-clause-said g c =
    line_taken _ _ c.put_and_flush.result c.put_and_flush.ensures.puts c.put_and_flush.ensures.flushed
