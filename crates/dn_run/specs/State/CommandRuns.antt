-- What a function of a command does, and the text that one call asks the files for.
use Rattle.std.specs.Prelude.{ℕ, List, Result}
use Rattle.dn_line.specs.Sources.{SourceFacts}
use Rattle.dn_host.specs.Takings.{FilesFacts}
use Rattle.dn_run.specs.Texts.{AskedText}
use Rattle.dn_run.specs.FilesRuns.{files_run, in_full, text_asked}
use Rattle.dn_run.specs.declared.stop.Stop.{Stop}
use Rattle.dn_sink.specs.Sinks.{SinkFacts}
use Rattle.dn_command.specs.Commands.{Asked}
use Rattle.dn_run.specs.Answers.{IsAnswerTo, OutAfter}
use Rattle.dn_run.specs.State.Endings.{answer_of}
use Rattle.dn_run.specs.Streams.{sink_run}
use Rattle.dn_run.specs.Runs.{Performs}

-- the text of this name, if the files with these descriptions were asked for no other
abbrev pub taken_text : {F T : Type 0} → FilesFacts F T → SourceFacts T → F × F → List ℕ → AskedText
taken_text facts source files = text_asked (files_run facts source files) files.0 files.1

-- what a command does, by its result: what it has done with its texts and to `out`, and that its answer is one that the
-- command may have
pub record Does {F T S : Type 0} (files : FilesFacts F T) (source : SourceFacts T) (out : SinkFacts S) (asked : Asked)
    (both_files : F × F) (both_outs : S × S) (result : Result ℕ Stop) : Type 0 where
  pub performs : Performs (in_full (files_run files source both_files)) (sink_run out both_outs) asked
      (answer_of result)
  pub out_after : OutAfter (sink_run out both_outs) (answer_of result)
  pub answers : IsAnswerTo asked (answer_of result)
