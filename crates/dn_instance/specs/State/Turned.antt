-- Verdicts with left and right exchanged.
use Rattle.dn_arc_theory.specs.declared.difference.Gap.{Gap}
use Rattle.dn_arc_theory.specs.declared.difference.How.{How}
use Rattle.dn_arc_theory.specs.declared.difference.How.TheVariants.{Lengths, Totals, Costs}
use Rattle.dn_instance.specs.declared.verdict.Verdict.{Verdict}
use Rattle.dn_instance.specs.declared.verdict.Verdict.TheVariants.{Same, Kind, Nodes, Supply, Source, Sink, Pair, Length, Item, Point}

-- the costs exchanged
abbrev pub turned_gap : Gap → Gap
turned_gap gap = record { amount = gap.amount; left = gap.right; right = gap.left }

-- how the arcs of a pair differ, with left and right exchanged
abbrev pub turned_how : How → How
turned_how (Lengths left right) = Lengths right left
turned_how (Totals left right) = Totals right left
turned_how (Costs gap) = Costs (turned_gap gap)

-- the verdict with left and right exchanged
abbrev pub turned : Verdict → Verdict
turned Same = Same
turned (Kind left right) = Kind right left
turned (Nodes left right) = Nodes right left
turned (Supply id left right) = Supply id right left
turned (Source left right) = Source right left
turned (Sink left right) = Sink right left
turned (Pair src dst how) = Pair src dst (turned_how how)
turned (Length left right) = Length right left
turned (Item index) = Item index
turned (Point id) = Point id
