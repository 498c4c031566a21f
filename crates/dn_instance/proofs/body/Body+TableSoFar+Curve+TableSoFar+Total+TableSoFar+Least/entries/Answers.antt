use Rattle.std.proofs.Common.{length, refl, arith, ap, ◌∙◌}
use Rattle.dn_line.specs.declared.kind.Kind.TheVariants as Kinds
use Rattle.dn_arc_theory.specs.Entries.{cap_entries, cost_entries, length_entries}
use Rattle.dn_arc_theory.specs.Kinds.{capacities, costs, lengths}
use Rattle.dn_arc_theory.specs.declared.arc.Form.TheVariants.{One}
use Rattle.dn_bundle.specs.State.Listings.{curve_arcs, least_arcs, total_arcs}
use Rattle.dn_instance.specs.Items.{cap_arc_in, cost_arc_in, length_arc_in}
use Rattle.dn_instance.proofs.BodyLaws.{table_counted}
use Rattle.dn_instance.proofs.body.Body+TableSoFar+Curve+TableSoFar+Total+TableSoFar+Least.entries.Goals as goal

pub returns-in-Min : goal.returns-in-Min
returns-in-Min c =
    rw c.in-Min.is
    (table_counted Kinds.Min costs cost_entries cost_arc_in (curve_arcs One) _ _ (λ items. refl) c.entries.ensures)

pub returns-in-Max : goal.returns-in-Max
returns-in-Max c =
    rw c.in-Max.is
    (table_counted Kinds.Max capacities cap_entries cap_arc_in total_arcs _ _ (λ items. refl) c.entries-in-Max.ensures)

pub returns-in-Sp : goal.returns-in-Sp
returns-in-Sp c =
    rw c.in-Sp.is
    (table_counted Kinds.Sp lengths length_entries length_arc_in least_arcs _ _ (λ items. refl) c.entries-in-Sp.ensures)

pub returns-in-Ss : goal.returns-in-Ss
returns-in-Ss c = rw c.in-Ss.is (λ items h few. omega (arith, c.len.ensures, c.in-Ss.ids.ok, ap length h))

pub returns-in-P2p : goal.returns-in-P2p
returns-in-P2p c = rw c.in-P2p.is (λ items h few. omega (arith, c.len-in-P2p.ensures, c.in-P2p.pairs.ok, ap length h))

pub returns-in-Co : goal.returns-in-Co
returns-in-Co c = rw c.in-Co.is (λ items h few. c.len-in-Co.ensures.value ∙ ap length h.entries_are)
