use Rattle.std.proofs.Common.{◌≡◌, ◌∙◌, ◌<ℤ◌, ◌≤ℤ◌, ◌≤◌, pos, sym, ap, rules, slice_get, Some, None, length, arith}
use Rattle.std.proofs.lemmas.Int.{ints}
use Rattle.dn_nodes.proofs.LinkLaws.{find_below, find_far, find_link, link_of, link_some, past_end, within}
use Rattle.dn_nodes.proofs.links.Links.find.Goals as goal

pub returns-then-node-lt0 : goal.returns-then-node-lt0
returns-then-node-lt0 c =
    let s = c.self.inside in
    let neg : c.args.node.now <ℤ pos 0 = search rules in
    sym (find_below s.above.entries c.args.self.now s.links.items c.args.node.now c.self.invariant.0 c.self.view_is neg)

pub returns-in-Some-eq0 : goal.returns-in-Some-eq0
returns-in-Some-eq0 c =
    let s = c.self.inside in
    let got : slice_get s.links.items c.place_of.result ≡ Some 0 =
    sym (ap (λ l. Some l) (sym c.in-Some-eq0.field-0-test) ∙ rw c.deref.ensures.value at c.in-Some-eq0.ensures) in
    ap link_of (sym got)
    ∙ find_link s.above.entries c.args.self.now s.links.items c.args.node.now c.self.invariant.0
    c.self.view_is c.place_of.result (sym c.place_of.ensures)
    (within s.links.items c.place_of.result 0 got)

pub returns-in-Some : goal.returns-in-Some
returns-in-Some c =
    let s = c.self.inside in
    let got : slice_get s.links.items c.place_of.result ≡ Some c.in-Some.link =
    sym (rw c.deref.ensures.value at c.in-Some.ensures) in
    link_some c.in-Some.link c.in-Some.link-test.1
    ∙ ap link_of (sym got)
    ∙ find_link s.above.entries c.args.self.now s.links.items c.args.node.now c.self.invariant.0
    c.self.view_is c.place_of.result (sym c.place_of.ensures)
    (within s.links.items c.place_of.result c.in-Some.link got)

pub returns-in-None : goal.returns-in-None
returns-in-None c =
    let s = c.self.inside in
    let got : slice_get s.links.items c.place_of.result ≡ None =
    sym (rw c.deref.ensures.value at c.in-None.ensures) in
    let le : length s.links.items ≤ c.place_of.result = past_end s.links.items c.place_of.result got in
    let far : pos (length s.links.items) ≤ℤ c.args.node.now = omega (arith, ints, le, c.place_of.ensures) in
    c.copied.ensures ∙ c.get.ensures.value
    ∙ find_far s.above.entries c.args.self.now s.links.items c.args.node.now c.self.invariant.0
    c.self.view_is far
