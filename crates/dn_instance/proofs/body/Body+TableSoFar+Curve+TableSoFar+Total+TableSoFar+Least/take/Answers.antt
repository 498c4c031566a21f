use Rattle.std.proofs.Common.{◌≡◌, arith, to_z, of_z, w64, refl}
use Rattle.std.proofs.lemmas.Int.{ints}
use Rattle.dn_line.specs.declared.kind.Kind.TheVariants as Kinds
use Rattle.dn_bundle.specs.contracts.curve.CurveBundle.TheImpl as Curves
use Rattle.dn_bundle.specs.contracts.least.LeastBundle.TheImpl as Leasts
use Rattle.dn_bundle.specs.contracts.total.TotalBundle.TheImpl as Totals
use Rattle.dn_instance.specs.Items.{cap_arc_in, cost_arc_in, length_arc_in, query_in, source_in}
use Rattle.dn_instance.proofs.BodyLaws.{arc_took, cap_row, cost_row, id_faults, length_row, list_took, pair_faults, points_took}
use Rattle.dn_instance.proofs.body.Body+TableSoFar+Curve+TableSoFar+Total+TableSoFar+Least.take.Goals as goal

pub returns-in-Min-clause-taken : goal.returns-in-Min-clause-taken
returns-in-Min-clause-taken c =
    let r = c.args.row.now in
    let first : to_z w64 (of_z w64 r.first) ≡ r.first = omega (arith, ints) in
    let second : to_z w64 (of_z w64 r.second) ≡ r.second = omega (arith, ints) in
    let third : to_z w64 (of_z w64 r.third) ≡ r.third = omega (arith, ints) in
    let fourth : to_z w64 (of_z w64 r.fourth) ≡ r.fourth = omega (arith, ints) in
    let fifth : to_z w64 (of_z w64 r.fifth) ≡ r.fifth = omega (arith, ints) in
    let ans = simp (first, second, third, fourth, fifth) at c.take_arc.ensures.answer in
    let gains = simp (first, second, third, fourth, fifth) at c.take_arc.ensures.stands in
    let needs = simp (first, second, third, fourth, fifth) at c.take_arc.ensures.memory in
    rw c.in-Min.is
    (arc_took Kinds.Min cost_arc_in Curves.ghosts.bundle c.args.nodes.now _ _ r _ c.take_arc.result (cost_row r) ans
    gains needs)

pub returns-in-Max-clause-taken : goal.returns-in-Max-clause-taken
returns-in-Max-clause-taken c =
    let r = c.args.row.now in
    let first : to_z w64 (of_z w64 r.first) ≡ r.first = omega (arith, ints) in
    let second : to_z w64 (of_z w64 r.second) ≡ r.second = omega (arith, ints) in
    let third : to_z w64 (of_z w64 r.third) ≡ r.third = omega (arith, ints) in
    let ans = simp (first, second, third) at c.take_arc-in-Max.ensures.answer in
    let gains = simp (first, second, third) at c.take_arc-in-Max.ensures.stands in
    let needs = simp (first, second, third) at c.take_arc-in-Max.ensures.memory in
    rw c.in-Max.is
    (arc_took Kinds.Max cap_arc_in Totals.ghosts.bundle c.args.nodes.now _ _ r _ c.take_arc-in-Max.result
    (cap_row r) ans gains needs)

pub returns-in-Sp-clause-taken : goal.returns-in-Sp-clause-taken
returns-in-Sp-clause-taken c =
    let r = c.args.row.now in
    let first : to_z w64 (of_z w64 r.first) ≡ r.first = omega (arith, ints) in
    let second : to_z w64 (of_z w64 r.second) ≡ r.second = omega (arith, ints) in
    let third : to_z w64 (of_z w64 r.third) ≡ r.third = omega (arith, ints) in
    let ans = simp (first, second, third) at c.take_arc-in-Sp.ensures.answer in
    let gains = simp (first, second, third) at c.take_arc-in-Sp.ensures.stands in
    let needs = simp (first, second, third) at c.take_arc-in-Sp.ensures.memory in
    rw c.in-Sp.is
    (arc_took Kinds.Sp length_arc_in Leasts.ghosts.bundle c.args.nodes.now _ _ r _ c.take_arc-in-Sp.result
    (length_row r) ans gains needs)

pub returns-in-Ss-clause-taken : goal.returns-in-Ss-clause-taken
returns-in-Ss-clause-taken c =
    rw c.in-Ss.is (λ before a was.
    list_took Kinds.Ss source_in c.args.nodes.now _ _ c.args.row.now _ _ _ before refl
    (id_faults before c.args.row.now.first) (λ items. refl) c.push_source.ensures.answer c.push_source.ensures.ok a was)

pub returns-in-P2p-clause-taken : goal.returns-in-P2p-clause-taken
returns-in-P2p-clause-taken c =
    let r = c.args.row.now in
    let first : to_z w64 (of_z w64 r.first) ≡ r.first = omega (arith, ints) in
    let second : to_z w64 (of_z w64 r.second) ≡ r.second = omega (arith, ints) in
    let ans = simp (first, second) at c.push_query.ensures.answer in
    let ok = simp (first, second) at c.push_query.ensures.ok in
    rw c.in-P2p.is (λ before a was.
    list_took Kinds.P2p query_in c.args.nodes.now _ _ r _ _ _ before refl
    (pair_faults before (r.first, r.second)) (λ items. refl) ans ok a was)

pub returns-in-Co-clause-taken : goal.returns-in-Co-clause-taken
returns-in-Co-clause-taken c =
    let r = c.args.row.now in
    let second : to_z w64 (of_z w64 r.second) ≡ r.second = omega (arith, ints) in
    let third : to_z w64 (of_z w64 r.third) ≡ r.third = omega (arith, ints) in
    let ok = simp (second, third) at c.insert_point.ensures.ok in
    rw c.in-Co.is (λ before a was.
    points_took c.args.nodes.now _ _ r _ before c.insert_point.ensures.answer ok a was)
