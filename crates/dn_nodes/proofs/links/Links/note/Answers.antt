use Rattle.std.proofs.Common.{◌≡◌, ◌∙◌, ◌≤ℤ◌, ◌≤◌, ◌<◌, ◌+◌, ◌*◌, ◌++◌, pos, sym, ap, rules, set, length, arith, w64, FitsSigned}
use Rattle.std.specs.BTreeMap.{insert_entry}
use Rattle.std.specs.Ordering.{int_cmp}
use Rattle.std.proofs.lemmas.Int.{ints, to_z-of_z}
use Rattle.std.proofs.lemmas.Grind.{common_steps}
use Rattle.std.proofs.lemmas.List.{length-set}
use Rattle.dn_nodes.specs.State.Links.{direct}
use Rattle.dn_nodes.specs.declared.links.Links.TheInside.{Inside}
use Rattle.dn_nodes.proofs.KeyLaws.{insert_ascends}
use Rattle.dn_nodes.proofs.LinkLaws.{far_insert, note_far, note_link}
use Rattle.dn_nodes.proofs.NodeLaws.{short_more}
use Rattle.dn_nodes.proofs.links.Links.note.Goals as goal
use Rattle.dn_nodes.proofs.links.Links.note.Goals.{then-len-place+else-saturating_add-place+in_ok-reach, else-len-place}

pub invariant_of-self-then-saturating_add-place : goal.invariant_of-self-then-saturating_add-place
invariant_of-self-then-saturating_add-place c =
    let s = c.self.inside in
    let f : FitsSigned w64 c.args.node.now = search rules in
    let place = c.place_of-place.ensures in
    let long : length s.links.items ≤ c.place_of-place.result =
    grind (arith, common_steps, c.if-len-place.true, c.len.ensures) in
    let far : pos (length s.links.items) ≤ℤ c.args.node.now = omega (arith, ints, long, place) in
    let is : c.insert.new.self.entries
    ≡ insert_entry int_cmp s.above.entries c.args.node.now c.args.link =
    simp to_z-of_z at c.in_ok-insert.ensures.entries in
    let now = note_far s.above.entries c.args.self.now s.links.items c.args.node.now c.self.invariant.0
    c.self.view_is far c.insert.new.self.entries c.args.link is in
    let more = short_more c.args.self.now _ c.args.node.now c.args.link _ s.count _ now c.requires.none
    (omega (arith, c.self.invariant.2, ap length c.self.view_is))
    (omega (arith, c.self.invariant.3, ap length c.self.view_is)) (omega (arith, c.saturating_add-count.ensures)) in (
      rw is (far_insert (length s.links.items) s.above.entries c.args.node.now c.args.link far c.requires.link
          c.self.invariant.0),
      rw is (insert_ascends s.above.entries c.args.node.now c.args.link c.self.invariant.1),
      more.0,
      more.1,
    )

pub returns-then-saturating_add-place-clause-ok : goal.returns-then-saturating_add-place-clause-ok
returns-then-saturating_add-place-clause-ok c =
    let s = c.self.inside in
    let f : FitsSigned w64 c.args.node.now = search rules in
    let place = c.place_of-place.ensures in
    let long : length s.links.items ≤ c.place_of-place.result =
    grind (arith, common_steps, c.if-len-place.true, c.len.ensures) in
    let far : pos (length s.links.items) ≤ℤ c.args.node.now = omega (arith, ints, long, place) in
    note_far s.above.entries c.args.self.now s.links.items c.args.node.now c.self.invariant.0
    c.self.view_is far c.insert.new.self.entries c.args.link
    (simp to_z-of_z at c.in_ok-insert.ensures.entries)

pub returns-clause-ok : goal.returns-clause-ok
returns-clause-ok c =
    let s = c.self.inside in
    let place = c.place_of-place.ensures in
    let i = c.place_of-place.result in
    let l = c.args.link in
    elim c.if-len-place.branch [
      | then-len-place+else-saturating_add-place+in_ok-reach w ↦
          let view : direct 0 w.reach.new.links.items ++ w.reach.new.above.entries
          ≡ c.args.self.now =
          w.in_ok-reach.ensures.same ∙ c.self.view_is in
          ap (λ (t : Inside). direct 0 (set t.links.items i l) ++ t.above.entries) w.self-inside-is
          ∙ note_link w.reach.new.above.entries c.args.self.now w.reach.new.links.items c.args.node.now
          w.in_ok-reach.ensures.far view i (sym place)
          (omega (arith, w.in_ok-reach.ensures.ok)) l c.requires.link c.requires.none
      | else-len-place w ↦
          let lt : i < length s.links.items =
          grind (arith, common_steps, w.if-len-place.false, c.len.ensures) in
          ap (λ (t : Inside). direct 0 (set t.links.items i l) ++ t.above.entries) w.self-inside-is
          ∙ note_link s.above.entries c.args.self.now s.links.items c.args.node.now c.self.invariant.0
          c.self.view_is i (sym place) lt l c.requires.link c.requires.none
    ]

pub invariant_of-self-2 : goal.invariant_of-self-2
invariant_of-self-2 c =
    let s = c.self.inside in
    let place = c.place_of-place.ensures in
    let i = c.place_of-place.result in
    let l = c.args.link in
    let few : s.count ≤ length c.args.self.now = omega (arith, c.self.invariant.3, ap length c.self.view_is) in
    let one : c.saturating_add-count.result ≤ s.count + 1 = omega (arith, c.saturating_add-count.ensures) in
    elim c.if-len-place.branch [
      | then-len-place+else-saturating_add-place+in_ok-reach w ↦
          let view : direct 0 w.reach.new.links.items ++ w.reach.new.above.entries
          ≡ c.args.self.now =
          w.in_ok-reach.ensures.same ∙ c.self.view_is in
          let most : length w.reach.new.links.items ≤ 8 * (length c.args.self.now + 17) =
          grind (
            arith,
            common_steps,
            w.if-saturating_add-place.false,
            w.saturating_add.ensures,
            c.self.invariant.3,
            ap length c.self.view_is,
            c.saturating_add-count.ensures,
            w.in_ok-reach.ensures.ok,
          ) in
          let now = note_link w.reach.new.above.entries c.args.self.now w.reach.new.links.items
          c.args.node.now w.in_ok-reach.ensures.far view i (sym place)
          (omega (arith, w.in_ok-reach.ensures.ok)) l c.requires.link c.requires.none in
          let more = short_more c.args.self.now _ c.args.node.now l _ s.count _ now c.requires.none most few one in
          rw (w.self-inside-is, length-set) (w.in_ok-reach.ensures.far, w.in_ok-reach.ensures.ascending, more.0, more.1)
      | else-len-place w ↦
          let lt : i < length s.links.items =
          grind (arith, common_steps, w.if-len-place.false, c.len.ensures) in
          let now = note_link s.above.entries c.args.self.now s.links.items c.args.node.now
          c.self.invariant.0 c.self.view_is i (sym place) lt l
          c.requires.link c.requires.none in
          let more = short_more c.args.self.now _ c.args.node.now l _ s.count _ now c.requires.none
          (omega (arith, c.self.invariant.2, ap length c.self.view_is)) few one in
          rw (w.self-inside-is, length-set) (c.self.invariant.0, c.self.invariant.1, more.0, more.1)
    ]
