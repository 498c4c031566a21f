use Rattle.std.proofs.Common.{sym, ◌∙◌, true≢false}
use Rattle.std.specs.Map.{keys_of}
use Rattle.pair_index.proofs.RunLaws.{first_run, sorted_after}
use Rattle.pair_index.proofs.SortedLaws.{no_last}
use Rattle.pair_index.proofs.runs.Runs.take.Goals as goal

pub returns-in_default-clause-taken : goal.returns-in_default-clause-taken
returns-in_default-clause-taken g c is =
    let runs = c.args.self.now in
    first_run runs.begin runs.group c.args.pair.now (keys_of c.args.entries.now)
    (no_last c.args.entries.now c.in_default.ensures.value) c.requires.shows

pub returns-in-Less-clause-taken : goal.returns-in-Less-clause-taken
returns-in-Less-clause-taken g c is =
    let runs = c.args.self.now in
    let es = c.args.entries.now in
    let fs = c.close.new.entries in
    rw c.close.ensures.group (sorted_after es fs c.in-Some.field-0.now c.args.pair.now c.in-Some.ensures.value
    (λ e. true≢false (sym (c.is_tail.ensures.1 e) ∙ c.if-is_tail.false)) c.close.ensures.moved runs.begin
    runs.group c.requires.shows (sym c.in-Less.ensures) c.close.ensures.sorted)
