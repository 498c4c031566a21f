use Rattle.std.proofs.Common.{◌∙◌, FitsSigned, w64, rules, to_z-of_z}
use Rattle.dn_arc_theory.specs.State.CurveListed.{listed}
use Rattle.dn_arc_theory.specs.State.SingleArcs.{length_listed, cap_listed}
use Rattle.dn_arc_theory.specs.declared.arc.Form.{Form}
use Rattle.dn_arc_theory.specs.State.Curves.{CurveNumbers}
use Rattle.dn_bundle.specs.declared.least.Least.{Least}
use Rattle.dn_bundle.specs.declared.total.Total.{Total}
use Rattle.dn_instance.specs.Instances.{Sources, Queries, Coordinates}
use Rattle.dn_canon.proofs.HeldLaws.{costs_written, capacities_written, lengths_written, shows_sources, shows_queries, shows_points, companion_written}
use Rattle.dn_canon.proofs.canon.write_canon.Goals as goal

pub returns-in-Min-clause-canon : goal.returns-in-Min-clause-canon
returns-in-Min-clause-canon g c I v h =
    let nodes : FitsSigned w64 c.nodes-nodes.result = search rules in
    costs_written g.K.Sink.sink c.args.sink.now c.write_graph.new.sink c.args.form
    (λ (f : Form) (b : CurveNumbers). listed f b.units b.cost b.steps) _ _ _ I c.write_graph.result
    (rw (← c.in-Min.ensures) at h.shows) (to_z-of_z nodes ∙ c.nodes-nodes.ensures ∙ h.nodes_are) v
    c.write_graph.ensures.canon c.write_graph.ensures.text

pub returns-in-Max-clause-canon : goal.returns-in-Max-clause-canon
returns-in-Max-clause-canon g c I v h =
    let nodes : FitsSigned w64 c.nodes-nodes.result = search rules in
    let source : FitsSigned w64 c.in-Max.source = search rules in
    let target : FitsSigned w64 c.in-Max.target = search rules in
    capacities_written g.K.Sink.sink c.args.sink.now c.write_graph-in-Max.new.sink c.args.form
    (λ (f : Form) (b : Total). cap_listed b.total) _ _ _ _ I c.write_graph-in-Max.result
    (rw (← c.in-Max.ensures) at h.shows) (c.nodes-nodes.ensures ∙ h.nodes_are) v
    (simp to_z-of_z at c.write_graph-in-Max.ensures.canon) (simp to_z-of_z at c.write_graph-in-Max.ensures.text)

pub returns-in-Sp-clause-canon : goal.returns-in-Sp-clause-canon
returns-in-Sp-clause-canon g c I v h =
    let nodes : FitsSigned w64 c.nodes-nodes.result = search rules in
    lengths_written g.K.Sink.sink c.args.sink.now c.write_graph-in-Sp.new.sink c.args.form
    (λ (f : Form) (b : Least). length_listed b.length) _ _ I c.write_graph-in-Sp.result
    (rw (← c.in-Sp.ensures) at h.shows) (to_z-of_z nodes ∙ c.nodes-nodes.ensures ∙ h.nodes_are) v
    c.write_graph-in-Sp.ensures.canon c.write_graph-in-Sp.ensures.text

pub returns-in-Ss-clause-canon : goal.returns-in-Ss-clause-canon
returns-in-Ss-clause-canon g c I v h =
    companion_written g.K.Sink.sink c.args.sink.now c.write_sources.new.sink c.args.form
    (Sources c.in-Ss.items.now) I _ _
    c.written.ensures tt (shows_sources _ I (rw (← c.in-Ss.ensures) at h.shows)) v c.write_sources.ensures.few
    c.write_sources.ensures.text

pub returns-in-P2p-clause-canon : goal.returns-in-P2p-clause-canon
returns-in-P2p-clause-canon g c I v h =
    companion_written g.K.Sink.sink c.args.sink.now c.write_queries.new.sink c.args.form
    (Queries c.in-P2p.items.now) I _ _
    c.written-in-P2p.ensures tt (shows_queries _ I (rw (← c.in-P2p.ensures) at h.shows)) v c.write_queries.ensures.few
    c.write_queries.ensures.text

pub returns-in-Co-clause-canon : goal.returns-in-Co-clause-canon
returns-in-Co-clause-canon g c I v h =
    companion_written g.K.Sink.sink c.args.sink.now c.write_points.new.sink c.args.form
    (Coordinates c.in-Co.points.now.entries) I _ _ c.written-in-Co.ensures tt
    (shows_points _ I (rw (← c.in-Co.ensures) at h.shows)) v c.write_points.ensures.few c.write_points.ensures.text
