use Rattle.std.proofs.Common.{rules, ◌≤◌, length, refl, subst, sym, ◌∙◌, take, w64}
use Rattle.std.proofs.lemmas.Int.{to_z-of_z}
use Rattle.std.specs.Map.{keys_of}
use Rattle.std.proofs.lemmas.Map.Entries.{length-keys_of}
use Rattle.std.proofs.lemmas.Map.Keys.{IsDistinct-from_sorted}
use Rattle.dn_arc_theory.specs.Pairs.{pair_cmp}
use Rattle.dn_arc_theory.specs.State.Bundles.{meant}
use Rattle.dn_arc_theory.specs.declared.arc.CostArc.{CostArc}
use Rattle.dn_arc_lines.specs.declared.arc_line.ArcLine.{ArcLine}
use Rattle.dn_flow.specs.State.Spreads.{AreLines, arcs_by}
use Rattle.dn_flow.specs.State.Givings.{AreNone}
use Rattle.dn_flow.proofs.FitLaws.{begun, can_fit, none_after}
use Rattle.dn_flow.proofs.SpreadLaws.{not_both, spread_is}
use Rattle.dn_flow.proofs.flow.spread_over.Goals as goal

pub returns-then-not-are_lines-clause-no_flow : goal.returns-then-not-are_lines-clause-no_flow
returns-then-not-are_lines-clause-no_flow g c failed are can =
    not_both c.are_lines.result (search rules) (c.are_lines.ensures.1
    (subst (λ z. AreLines z c.args.lines.now) (sym (to_z-of_z w64 c.args.count (search rules))) are))

pub returns-then-not-fill-clause-no_flow : goal.returns-then-not-fill-clause-no_flow
returns-then-not-fill-clause-no_flow g c failed are can =
    let facts = g.B.Bundle.bundle in
    let table = c.args.table.now in
    let apart = IsDistinct-from_sorted pair_cmp (keys_of table) c.fill.ensures.ascending in
    let fits = can_fit facts.kind g.B.Carries.line_arc g.B.Carries.carried (facts.listed c.args.form)
    (meant facts) table
    c.args.flow.now c.args.lines.now can apart in
    not_both c.fill.result (search rules) (c.fill.ensures.all (arcs_by g.B.Carries.line_arc c.args.lines.now) fits).0

pub returns-then-not-give-clause-no_flow : goal.returns-then-not-give-clause-no_flow
returns-then-not-give-clause-no_flow g c failed are can =
    let facts = g.B.Bundle.bundle in
    let lists = facts.listed c.args.form in
    let arc = g.B.Carries.line_arc in
    let carried = g.B.Carries.carried in
    let table = c.args.table.now in
    let lines = c.args.lines.now in
    let apart = IsDistinct-from_sorted pair_cmp (keys_of table) c.fill.ensures.ascending in
    let fits = can_fit facts.kind arc carried lists (meant facts) table c.args.flow.now lines can apart in
    let filled = (c.fill.ensures.all (arcs_by arc lines) fits).1 in
    let balanced = begun facts.kind arc carried lists
    (meant facts) g.met.B.Carries.carries g.met.B.Carries.nothing table
    c.fill.new.shares c.args.flow.now lines can filled in
    let given = c.give.ensures.all apart balanced in
    not_both c.give.result (search rules) given.0

pub returns-then-not-are_none-clause-no_flow : goal.returns-then-not-are_none-clause-no_flow
returns-then-not-are_none-clause-no_flow g c failed are can =
    let facts = g.B.Bundle.bundle in
    let lists = facts.listed c.args.form in
    let arc = g.B.Carries.line_arc in
    let carried = g.B.Carries.carried in
    let table = c.args.table.now in
    let lines = c.args.lines.now in
    let apart = IsDistinct-from_sorted pair_cmp (keys_of table) c.fill.ensures.ascending in
    let fits = can_fit facts.kind arc carried lists (meant facts) table c.args.flow.now lines can apart in
    let filled = (c.fill.ensures.all (arcs_by arc lines) fits).1 in
    let balanced = begun facts.kind arc carried lists
    (meant facts) g.met.B.Carries.carries g.met.B.Carries.nothing table
    c.fill.new.shares c.args.flow.now lines can filled in
    let given = c.give.ensures.all apart balanced in
    let shares = c.give.new.shares in
    let bounds : ArcLine → CostArc = λ line. carried (arc line) in
    let few : length (keys_of table) ≤ length shares = search (rules, length-keys_of) in
    let none = none_after bounds (keys_of table) shares few given.1 in
    not_both c.are_none.result (search rules) (c.are_none.ensures.1
    (subst (λ n. AreNone (take n shares)) (length-keys_of table ∙ sym c.len-2.ensures) none))

pub returns-clause-ok : goal.returns-clause-ok
returns-clause-ok g c =
    let table = c.args.table.now in
    let given = c.give.new.shares in
    spread_is (λ line. g.B.Carries.carried (g.B.Carries.line_arc line)) (g.B.Bundle.bundle.listed c.args.form) table
    c.args.flow.now c.args.lines.now c.give.new.units c.fill.new.shares given
    (IsDistinct-from_sorted pair_cmp (keys_of table) c.fill.ensures.ascending) (c.if-not-fill.ensures.fills refl)
    (c.if-not-give.ensures.gives refl)
    (subst (λ n. AreNone (take n given)) c.len-2.ensures (c.if-not-are_none.ensures.0 refl))
