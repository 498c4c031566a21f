use Rattle.std.proofs.Common.{sym, ◌∙◌, true≢false}
use Rattle.std.specs.Map.{keys_of}
use Rattle.pair_index.proofs.RunLaws.{group_unless_sorted, front_sorted, found_before, found_among}
use Rattle.pair_index.proofs.runs.Runs.find.Goals as goal

pub search-requires-else-is_tail : goal.search-requires-else-is_tail
search-requires-else-is_tail g c =
    let runs = c.args.self.now in
    let es = c.args.entries.now in
    front_sorted runs.begin es c.in_ok-last.field-0.now c.args.pair.now c.in_ok-last.ensures.value
    (group_unless_sorted (keys_of es) runs.begin runs.group c.in_default.not-Sorted c.requires)

pub find_in_group-requires-clause-group : goal.find_in_group-requires-clause-group
find_in_group-requires-clause-group g c =
    let runs = c.args.self.now in
    group_unless_sorted (keys_of c.args.entries.now) runs.begin runs.group c.in_default.not-Sorted c.requires

pub returns-then-is_tail : goal.returns-then-is_tail
returns-then-is_tail g c =
    let runs = c.args.self.now in
    let es = c.args.entries.now in
    record {
      position =
          found_among runs.begin es c.in_ok-last.field-0.now c.args.pair.now c.in_ok-last.ensures.value
          (group_unless_sorted (keys_of es) runs.begin runs.group c.in_default.not-Sorted c.requires)
          (c.is_tail.ensures.0 c.if-is_tail.true) c.find_in_group.result c.find_in_group.ensures;
      shows = c.requires;
    }

pub returns-else-is_tail : goal.returns-else-is_tail
returns-else-is_tail g c =
    let runs = c.args.self.now in
    let es = c.args.entries.now in
    record {
      position =
          found_before runs.begin es c.in_ok-last.field-0.now c.args.pair.now c.in_ok-last.ensures.value
          (group_unless_sorted (keys_of es) runs.begin runs.group c.in_default.not-Sorted c.requires)
          (λ e. true≢false (sym (c.is_tail.ensures.1 e) ∙ c.if-is_tail.false)) c.search-else-is_tail.result
          c.search-else-is_tail.ensures.position;
      shows = c.search-else-is_tail.ensures.stays (keys_of es) c.requires;
    }
