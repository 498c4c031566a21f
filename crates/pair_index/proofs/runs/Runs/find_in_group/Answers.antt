use Rattle.std.proofs.Common.{Some, None}
use Rattle.std.specs.Map.{keys_of}
use Rattle.pair_index.proofs.RunLaws.{found_linked, group_linked}
use Rattle.pair_index.proofs.runs.Runs.find_in_group.Goals as goal

pub find-requires : goal.find-requires
find-requires g c =
    let keys = keys_of c.args.entries.now in
    let linked = rw c.in-Linked.is at c.requires.shows in
    group_linked c.args.self.now.begin c.args.entries.now c.in-Linked.chains linked.1

pub returns-in_err-position-in-Linked : goal.returns-in_err-position-in-Linked
returns-in_err-position-in-Linked g c =
    let runs = c.args.self.now in
    rw c.from_residual.ensures
    (found_linked runs.begin c.args.entries.now c.args.pair.now None c.requires.group
    c.in_err-position-in-Linked.ensures)

pub returns-in_ok-position-in-Linked : goal.returns-in_ok-position-in-Linked
returns-in_ok-position-in-Linked g c =
    let runs = c.args.self.now in
    found_linked runs.begin c.args.entries.now c.args.pair.now (Some c.in_ok-position-in-Linked.position)
    c.requires.group c.in_ok-position-in-Linked.ensures
