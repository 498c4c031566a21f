use Rattle.std.proofs.Common.{rules, ◌≡◌, sym, ap, ◌∙◌, to_z, of_z, w64}
use Rattle.std.specs.Int.{w128}
use Rattle.std.proofs.lemmas.Int.{to_z-of_z}
use Rattle.dn_bundle.proofs.StepLaws.{less, not_apart}
use Rattle.dn_bundle.proofs.PartLaws.{from_units, left_gap, right_gap, cost_gap, step_gap}
use Rattle.dn_bundle.proofs.curve.Curve.gap.Goals as goal

pub returns-then-left-right : goal.returns-then-left-right
returns-then-left-right c =
    let self = c.args.self.now in
    let other = c.args.other.now in
    let lt = less c.units-left.result c.units-right.result (search rules) (search rules) c.if-left-right.true in
    let f = to_z-of_z w64 c.units-left.result (search rules) in
    let h = to_z-of_z w128 c.cost-left_cost.result (search rules) in
    rw (f, h, c.units-left.ensures, c.cost-left_cost.ensures)
    (left_gap self.units self.cost self.total self.steps self.sound other.units other.cost other.total other.steps
    other.sound (rw (c.units-left.ensures, c.units-right.ensures) at lt))

pub returns-then-right-left : goal.returns-then-right-left
returns-then-right-left c =
    let self = c.args.self.now in
    let other = c.args.other.now in
    let lt = less c.units-right.result c.units-left.result (search rules) (search rules) c.if-right-left.true in
    let f = to_z-of_z w64 c.units-right.result (search rules) in
    let k = to_z-of_z w128 c.cost-right_cost.result (search rules) in
    rw (f, k, c.units-right.ensures, c.cost-right_cost.ensures)
    (right_gap self.units self.cost self.total self.steps self.sound other.units other.cost other.total other.steps
    other.sound (rw (c.units-left.ensures, c.units-right.ensures) at lt))

pub returns-then-left_cost-right_cost : goal.returns-then-left_cost-right_cost
returns-then-left_cost-right_cost c =
    let self = c.args.self.now in
    let other = c.args.other.now in
    let same = not_apart c.units-left.result c.units-right.result (search rules) (search rules) c.if-left-right.false
    c.if-right-left.false in
    let f = to_z-of_z w64 c.units-left.result (search rules) in
    let h = to_z-of_z w128 c.cost-left_cost.result (search rules) in
    let k = to_z-of_z w128 c.cost-right_cost.result (search rules) in
    rw (f, h, k, c.units-left.ensures, c.cost-left_cost.ensures, c.cost-right_cost.ensures)
    (cost_gap self.units self.cost self.total self.steps self.sound other.units other.cost other.total other.steps
    other.sound (rw (c.units-left.ensures, c.units-right.ensures) at same)
    (λ e.
    let costs : c.cost-left_cost.result ≡ c.cost-right_cost.result =
    rw (c.cost-left_cost.ensures, c.cost-right_cost.ensures) e in
    c.if-left_cost-right_cost.true (ap (of_z w128) costs)))

pub first_gap-requires : goal.first_gap-requires
first_gap-requires c =
    let self = c.args.self.now in
    let other = c.args.other.now in
    let same = not_apart c.units-left.result c.units-right.result (search rules) (search rules) c.if-left-right.false
    c.if-right-left.false in
    let f = to_z-of_z w64 c.units-left.result (search rules) in
    let h = to_z-of_z w128 c.cost-left_cost.result (search rules) in
    let steps = from_units self.units self.cost self.total self.steps self.sound other.units other.cost other.total
    other.steps other.sound (rw (c.units-left.ensures, c.units-right.ensures) at same) in
    rw (f, h, c.units-left.ensures, c.cost-left_cost.ensures)
    (rw (c.steps.ensures, c.steps-else-left_cost-right_cost.ensures) steps)

pub returns-else-left_cost-right_cost : goal.returns-else-left_cost-right_cost
returns-else-left_cost-right_cost c =
    let self = c.args.self.now in
    let other = c.args.other.now in
    let f = to_z-of_z w64 c.units-left.result (search rules) in
    let h = to_z-of_z w128 c.cost-left_cost.result (search rules) in
    let k = to_z-of_z w128 c.cost-right_cost.result (search rules) in
    let same = not_apart c.units-left.result c.units-right.result (search rules) (search rules) c.if-left-right.false
    c.if-right-left.false in
    let cost = sym h ∙ ap (to_z w128) c.if-left_cost-right_cost.false ∙ k in
    rw (c.first_gap.ensures, f, h, c.units-left.ensures, c.cost-left_cost.ensures)
    (rw (c.steps.ensures, c.steps-else-left_cost-right_cost.ensures)
    (step_gap self.units self.cost self.total self.steps self.sound other.units other.cost other.total other.steps
    other.sound (rw (c.units-left.ensures, c.units-right.ensures) at same)
    (rw (c.cost-left_cost.ensures, c.cost-right_cost.ensures) at cost)))
