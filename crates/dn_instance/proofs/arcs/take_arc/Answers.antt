use Rattle.std.proofs.Common.{Err, ap, refl, sym, ◌∙◌, ◌&&◌}
use Rattle.dn_arc_theory.specs.declared.arc.Form.TheVariants.{One}
use Rattle.dn_instance.specs.State.ItemFaults.{in_graph}
use Rattle.dn_instance.proofs.ListsLaws.{arc_refused, lists_more, memory_of, sum_passes, taken_fault}
use Rattle.dn_table.proofs.NeedLaws.{needs_graph}
use Rattle.dn_instance.proofs.arcs.take_arc.Goals as goal

pub returns-in-Ok-clause-answer : goal.returns-in-Ok-clause-answer
returns-in-Ok-clause-answer g c arcs is old are both =
    let arc = c.if-not-is_arc.ensures.0 refl in
    let sum = sum_passes g.B.Bundle.bundle.kind (g.B.Bundle.bundle.listed One) g.met.B.Bundle.laws c.args.table.now arcs
    c.args.pair c.args.arc old are arc c.in-Ok.ensures.sum in
    taken_fault g.B.Bundle.bundle.kind c.args.nodes.now arcs is (c.args.pair, c.args.arc)
    (sym {b = in_graph c.args.nodes.now c.args.pair.0 && in_graph c.args.nodes.now c.args.pair.1}
    c.if-not-joins_nodes.ensures) (both.1 arc) (sum.1 (λ e. cc))

pub returns-in-Ok-clause-stands : goal.returns-in-Ok-clause-stands
returns-in-Ok-clause-stands g c arcs stays old are =
    lists_more g.B.Bundle.bundle.kind (g.B.Bundle.bundle.listed One) g.met.B.Bundle.laws
    (g.met.B.Bundle.canonical One) stays c.args.table.now c.add.new.self arcs c.args.pair c.args.arc old are
    (c.if-not-is_arc.ensures.0 refl) c.in-Ok.ensures.ok

pub returns-in-Err-clause-answer : goal.returns-in-Err-clause-answer
returns-in-Err-clause-answer g c arcs is old are both =
    let arc = c.if-not-is_arc.ensures.0 refl in
    let sum = sum_passes g.B.Bundle.bundle.kind (g.B.Bundle.bundle.listed One) g.met.B.Bundle.laws c.args.table.now arcs
    c.args.pair c.args.arc old are arc c.in-Err.ensures.sum in
    rw (c.item_fault.ensures)
    (arc_refused g.B.Bundle.bundle.kind c.args.nodes.now arcs is (c.args.pair, c.args.arc) c.in-Err.fault
    (sym {b = in_graph c.args.nodes.now c.args.pair.0 && in_graph c.args.nodes.now c.args.pair.1}
    c.if-not-joins_nodes.ensures) (both.1 arc) sum)

pub returns-in-Err-clause-memory : goal.returns-in-Err-clause-memory
returns-in-Err-clause-memory g c arcs old are e =
    needs_graph g.B.Bundle.bundle.kind g.B.Bundle.bundle.sizes g.met.B.Bundle.laws g.met.B.Bundle.sized
    (g.B.Bundle.bundle.listed One) c.args.table.now arcs c.args.pair c.args.arc old are (c.if-not-is_arc.ensures.0 refl)
    (c.in-Err.ensures.memory (memory_of c.in-Err.fault (ap Err (sym c.item_fault.ensures) ∙ e)))
