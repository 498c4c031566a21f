use Rattle.std.proofs.Common.{Ok, ap, sym, ◌∙◌}
use Rattle.std.specs.Map.{keys_of}
use Rattle.pair_index.proofs.RunLaws.{group_more, first_tail, linked_more}
use Rattle.pair_index.proofs.runs.Runs.link_group.Goals as goal

pub returns-then-branch-clause-taken : goal.returns-then-branch-clause-taken
returns-then-branch-clause-taken g c is =
    let runs = c.args.self.now in
    let es = c.args.entries.now in
    let p = c.args.pair.now in
    let group = c.requires.group in (
      group_more (keys_of es) runs.begin group p
          (sym c.requires.tail ∙ first_tail (keys_of es) runs.begin group p),
      linked_more runs.begin es p c.take.new.self group
          (c.in_ok-take-in-Some.ensures.taken (ap (λ b. Ok b) c.if-branch.true)),
    )
