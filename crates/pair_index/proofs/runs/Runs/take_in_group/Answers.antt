use Rattle.std.proofs.Common.{◌≡◌, ◌-◌, ◌<◌, ◌≤◌, length, sym, ap, ◌∙◌}
use Rattle.std.specs.Map.{keys_of}
use Rattle.std.proofs.lemmas.Map.Entries.{length-keys_of}
use Rattle.pair_index.specs.State.Positions.{key_at}
use Rattle.pair_index.proofs.RunLaws.{end_tail, group_linked, group_more, linked_back, linked_more, opened}
use Rattle.pair_index.proofs.runs.Runs.take_in_group.Goals as goal

pub returns-then-entries-self-lt-FEW-clause-taken : goal.returns-then-entries-self-lt-FEW-clause-taken
returns-then-entries-self-lt-FEW-clause-taken g c is =
    let runs = c.args.self.now in
    let keys = keys_of c.args.entries.now in
    let p = c.args.pair.now in
    let group = rw c.in-Few.is at c.requires.shows in
    let tail : p.0 ≡ group.tail =
    sym c.requires.tail ∙ ap (λ n. (key_at keys (n - 1)).0) (sym (length-keys_of c.args.entries.now))
    ∙ end_tail keys runs.begin group p in
    rw c.in-Few.is (group_more keys runs.begin group p tail)

pub take-requires : goal.take-requires
take-requires g c =
    let runs = c.args.self.now in
    group_linked runs.begin c.args.entries.now c.in-Linked.chains (rw c.in-Linked.is at c.requires.shows).1

pub returns-in-Linked-clause-taken : goal.returns-in-Linked-clause-taken
returns-in-Linked-clause-taken g c is =
    let runs = c.args.self.now in
    let es = c.args.entries.now in
    let keys = keys_of es in
    let p = c.args.pair.now in
    let group = (rw c.in-Linked.is at c.requires.shows).0 in
    let tail : p.0 ≡ group.tail =
    sym c.requires.tail ∙ ap (λ n. (key_at keys (n - 1)).0) (sym (length-keys_of es))
    ∙ end_tail keys runs.begin group p in (
      group_more keys runs.begin group p tail,
      linked_more runs.begin es p c.take.new.self group (c.take.ensures.taken is),
    )

pub returns-in-Linked-clause-not : goal.returns-in-Linked-clause-not
returns-in-Linked-clause-not g c isnt =
    let runs = c.args.self.now in
    let shown = rw c.in-Linked.is at c.requires.shows in (
      shown.0,
      linked_back runs.begin c.args.entries.now c.take.new.self (c.take.ensures.not isnt),
    )

pub returns-else-is_past-clause-taken : goal.returns-else-is_past-clause-taken
returns-else-is_past-clause-taken g c is =
    let runs = c.args.self.now in
    let es = c.args.entries.now in
    let keys = keys_of es in
    let p = c.args.pair.now in
    let begin = c.begin_of-self.result in
    let all : length keys ≡ length es = length-keys_of es in
    let up = rw c.in-Sorted.is at c.requires.shows in
    let some : 0 < length keys = rw all c.requires.some in
    let within : begin ≤ length keys = rw all c.begin_of-self.ensures.within in
    let tail : (key_at keys (length keys - 1)).0 ≡ p.0 = ap (λ n. (key_at keys (n - 1)).0) all ∙ c.requires.tail in
    let group =
    opened keys begin p.0 up some within
    (λ i from lt. c.begin_of-self.ensures.from i from (rw all at lt))
    c.begin_of-self.ensures.before tail in
    group_more keys begin group p (sym tail ∙ end_tail keys begin group p)
