use Rattle.dn_line.proofs.RunLaws.{words_each, words_runs, runs_only}
use Rattle.dn_laws.proofs.lines.laws.word_runs.Goals as goal

pub returns : goal.returns
returns c = record { each = words_each; runs = words_runs; only = runs_only }
