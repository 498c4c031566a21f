use Rattle.std.proofs.Common.{◌∙◌, ◌++◌, ◌∷◌, ◌+◌, [], length, ap}
use Rattle.dn_nodes.proofs.NodeLaws.{bare, filled, unlinked}
use Rattle.dn_nodes.proofs.node_map.NodeMap.insert.Goals as goal

pub note-requires-clause-none : goal.note-requires-clause-none
note-requires-clause-none g c =
    let s = c.self.inside in
    unlinked s.links s.values.items c.args.self.now c.args.node.now c.self.view_is c.requires.none

pub invariant_of-self-in_default : goal.invariant_of-self-in_default
invariant_of-self-in_default g c =
    let s = c.self.inside in
    (bare s.links c.note.new.self s.values.items c.args.self.now c.args.node.now c.self.view_is c.self.invariant
    c.requires.none c.in_ok-note.ensures.ok).1

pub returns-in_default-clause-ok : goal.returns-in_default-clause-ok
returns-in_default-clause-ok g c =
    let s = c.self.inside in
    rw c.in_default.is
    (bare s.links c.note.new.self s.values.items c.args.self.now c.args.node.now c.self.view_is c.self.invariant
    c.requires.none c.in_ok-note.ensures.ok).0

pub note-requires-2-clause-none : goal.note-requires-2-clause-none
note-requires-2-clause-none g c =
    let s = c.self.inside in
    unlinked s.links s.values.items c.args.self.now c.args.node.now c.self.view_is c.requires.none

pub invariant_of-self-2 : goal.invariant_of-self-2
invariant_of-self-2 g c =
    let s = c.self.inside in
    (filled s.links c.note-2.new.self s.values.items c.args.self.now c.args.node.now c.self.view_is c.self.invariant
    c.requires.none c.push_reserved.new.self.items c.in-Some.value (c.len.result + 2)
    (ap (λ n. n + 2) (c.len.ensures ∙ c.reserve.new.self.ok.0 ∙ ap length c.in_ok-reserve.ensures.items))
    c.in_ok-note-2.ensures.ok
    (c.push_reserved.ensures.items ∙ ap (λ l. l ++ c.in-Some.value ∷ []) c.in_ok-reserve.ensures.items)).1

pub returns-clause-ok : goal.returns-clause-ok
returns-clause-ok g c =
    let s = c.self.inside in
    rw c.in-Some.is
    ((filled s.links c.note-2.new.self s.values.items c.args.self.now c.args.node.now c.self.view_is c.self.invariant
    c.requires.none c.push_reserved.new.self.items c.in-Some.value (c.len.result + 2)
    (ap (λ n. n + 2) (c.len.ensures ∙ c.reserve.new.self.ok.0 ∙ ap length c.in_ok-reserve.ensures.items))
    c.in_ok-note-2.ensures.ok
    (c.push_reserved.ensures.items ∙ ap (λ l. l ++ c.in-Some.value ∷ []) c.in_ok-reserve.ensures.items)).0)
