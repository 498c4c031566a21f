use Rattle.std.proofs.Common.{◌≡◌, ◌∙◌, ◌≤ℤ◌, ◌≤◌, ◌<◌, ◌∷◌, pos, sym, rules, length, arith, w64, FitsSigned}
use Rattle.std.proofs.lemmas.Int.{ints, to_z-of_z}
use Rattle.std.proofs.lemmas.Grind.{common_steps}
use Rattle.std.proofs.lemmas.List.{length-set}
use Rattle.dn_nodes.proofs.LinkLaws.{resized, clear_first, same_first, first_some, far_all, moved_same, moved_clear, moved_ascends, moved_far}
use Rattle.dn_nodes.proofs.links.reach.Goals as goal

pub loop-node-init : goal.loop-node-init
loop-node-init c =
    let old = c.args.links.now.items in
    let le : length old ≤ c.in-Some.len = grind (arith, common_steps, c.requires.beyond, c.in-Some.ensures) in
    let is = resized old c.resize.new.self.items c.in-Some.len _ le c.in_ok-resize.ensures.items in
    record {
      same = rw is (same_first old _ c.args.above.now.entries);
      far = c.requires.far;
      clear = rw is (clear_first old _ c.args.above.now.entries c.requires.far);
      ascends = c.requires.ascends;
      long = search rules;
    }

pub place_of-requires : goal.place_of-requires
place_of-requires c =
    first_some (length c.args.links.now.items) c.loop-node.above.entries
    (c.in-Some-first_key_value.node.now, c.in-Some-first_key_value.field-0-1.now)
    c.in-Some-first_key_value.ensures.first c.loop-node.invariant.far

pub loop-node-preserved : goal.loop-node-preserved
loop-node-preserved c =
    let f : FitsSigned w64 c.in-Some-pop_first.node = search rules in
    let links = c.loop-node.links.items in
    let es = c.loop-node.above.entries in
    let rest = c.pop_first.new.self.entries in
    let i = c.place_of-at.result in
    let is : es ≡ (c.in-Some-pop_first.node, c.in-Some-pop_first.link) ∷ rest =
    c.in-Some-pop_first.ensures.removal in
    let at_i : c.in-Some-pop_first.node ≡ pos i = sym (simp to_z-of_z at c.place_of-at.ensures) in
    let lt : i < length links = search rules in
    let m = length c.args.links.now.items in
    record {
      same =
          moved_same links i c.in-Some-pop_first.link c.in-Some-pop_first.node es rest is at_i lt
          c.loop-node.invariant.clear c.loop-node.invariant.ascends m c.loop-node.invariant.far
          ∙ c.loop-node.invariant.same;
      far =
          moved_far links i c.in-Some-pop_first.link c.in-Some-pop_first.node es rest is at_i lt
          c.loop-node.invariant.clear c.loop-node.invariant.ascends m c.loop-node.invariant.far;
      clear =
          moved_clear links i c.in-Some-pop_first.link c.in-Some-pop_first.node es rest is at_i lt
          c.loop-node.invariant.clear c.loop-node.invariant.ascends;
      ascends =
          moved_ascends links i c.in-Some-pop_first.link c.in-Some-pop_first.node es rest is at_i lt
          c.loop-node.invariant.clear c.loop-node.invariant.ascends;
      long = rw length-set c.loop-node.invariant.long;
    }

pub returns-then-len-place_of-clause-far : goal.returns-then-len-place_of-clause-far
returns-then-len-place_of-clause-far c =
    let node = c.in-Some-first_key_value.node.now in
    let le : pos (length c.loop-node.links.items) ≤ℤ node =
    omega (arith, ints, c.if-len-place_of.true, c.loop-node.invariant.long, c.place_of.ensures) in
    far_all (length c.args.links.now.items) (length c.loop-node.links.items) c.loop-node.above.entries
    (node, c.in-Some-first_key_value.field-0-1.now) c.in-Some-first_key_value.ensures.first le
    c.loop-node.invariant.ascends c.loop-node.invariant.far
