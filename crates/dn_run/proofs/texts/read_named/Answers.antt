use Rattle.std.proofs.Common.{refl, sym, ◌∙◌}
use Rattle.dn_run.specs.FilesRuns.{files_run, read, sources_asked, unopened}
use Rattle.dn_run.specs.Texts.{IsRefusedText}
use Rattle.dn_run.specs.State.CommandRuns.{taken_text}
use Rattle.dn_run.specs.State.TextReads.{IsRead}
use Rattle.dn_run.proofs.OutcomeLaws.{by_name}
use Rattle.dn_run.proofs.ReadLaws.{came, handed_reads}
use Rattle.dn_run.proofs.texts.read_named.Goals as goal

pub returns-in-Ok-clause-read : goal.returns-in-Ok-clause-read
returns-in-Ok-clause-read g c =
    let files = files_run g.F.Files.files g.F.Text.ByteSource.source (c.args.files.now, c.give_back.new.self) in
    let text = taken_text g.F.Files.files g.F.Text.ByteSource.source (c.args.files.now, c.give_back.new.self)
    c.args.name.now in
    by_name (IsRead (IsRefusedText text) text) _ _ _ c.or_stop.ensures
    (handed_reads _ _ _ (sources_asked files c.args.files.now c.give_back.new.self c.args.name.now) _
    (came c.in-Ok.text c.in-Ok.ensures.hands c.read_from-read.ensures.left.pulls
    (c.take.new.self, c.give_back.ensures))
    (c.give_back.ensures.faults c.args.name.now ∙ c.in-Ok.ensures.ok) _ c.read_from-read.result c.in-Ok.ensures.text
    c.read_from-read.ensures.outcome c.read_from-read.ensures.left.read c.read_from-read.ensures.held
    c.read_from-read.ensures.refusal)

pub returns-in-Ok-clause-asks : goal.returns-in-Ok-clause-asks
returns-in-Ok-clause-asks g c = record {
  mid = c.take.new.self;
  asks = c.in-Ok.ensures.asked;
  keeps = λ other h. c.give_back.ensures.behind other ∙ c.in-Ok.ensures.asked.keeps other h;
  back = read _
      (came c.in-Ok.text c.in-Ok.ensures.hands c.read_from-read.ensures.left.pulls
      (c.take.new.self, c.give_back.ensures))
      c.give_back.ensures;
}

pub returns-in-Err-clause-asks : goal.returns-in-Err-clause-asks
returns-in-Err-clause-asks g c = record {
  mid = c.take.new.self;
  asks = c.in-Err.ensures.asked;
  keeps = c.in-Err.ensures.asked.keeps;
  back = unopened (λ e. cc (sym c.in-Err.ensures.err ∙ e)) refl;
}
