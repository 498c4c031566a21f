-- The first difference between two instances (this project's profile).
use Rattle.std.specs.Prelude.{◌≡◌, ◌≢◌, ℕ, ℤ, pos, Some}
use Rattle.std.specs.Ordering.{int_cmp, ordering_then}
use Rattle.std.specs.declared.cmp.Ordering.{Ordering}
use Rattle.std.specs.declared.cmp.Ordering.TheVariants.{Less}
use Rattle.dn_arc_theory.specs.Differences.{CurvesDiffer, LengthsDiffer, TotalsDiffer}
use Rattle.dn_arc_theory.specs.declared.difference.How.{How}
use Rattle.dn_instance.specs.Instances.{Instance, MinCostFlow, MaxFlow, ShortestPaths, Sources, Queries, kind_of, nodes_of}
use Rattle.dn_arc_theory.specs.Pairs.{bundle, pair_cmp}
use Rattle.dn_instance.specs.Sameness.{IsSame}
use Rattle.dn_compare.specs.Observed.{flow_of, source_of, sink_of, count_of, item_at, point_of}
use Rattle.dn_instance.specs.declared.verdict.Verdict.{Verdict}
use Rattle.dn_instance.specs.declared.verdict.Verdict.TheVariants.{Same, Kind, Nodes, Supply, Source, Sink, Pair, Length, Item, Point}

-- the values x and y differ; `left` is x and `right` is y
abbrev pub Differ : {A : Type 0} → A → A → A → A → Type 0
Differ x y left right = (x ≡ left) × (y ≡ right) × (left ≢ right)

-- the arcs of an ordered pair differ in meaning, and `how` says how
abbrev pub BundlesDiffer : Instance → Instance → ℤ × ℤ → How → Type 0
BundlesDiffer (MinCostFlow s G) (MinCostFlow t H) p how = CurvesDiffer (bundle p G.arcs) (bundle p H.arcs) how
BundlesDiffer (MaxFlow a b G) (MaxFlow c d H) p how = TotalsDiffer (bundle p G.arcs) (bundle p H.arcs) how
BundlesDiffer (ShortestPaths G) (ShortestPaths H) p how = LengthsDiffer (bundle p G.arcs) (bundle p H.arcs) how
BundlesDiffer _ _ p how = ⊥

-- the items at an index differ
abbrev pub ItemsDiffer : Instance → Instance → ℕ → Type 0
ItemsDiffer (Sources xs) (Sources ys) index = item_at xs index ≢ item_at ys index
ItemsDiffer (Queries xs) (Queries ys) index = item_at xs index ≢ item_at ys index
ItemsDiffer _ _ index = ⊥

-- what a verdict says is true of two instances
abbrev pub IsTrueOf : Instance → Instance → Verdict → Type 0
IsTrueOf I J Same = IsSame I J
IsTrueOf I J (Kind left right) = Differ (kind_of I) (kind_of J) left right
IsTrueOf I J (Nodes left right) = Differ (nodes_of I) (nodes_of J) left right
IsTrueOf I J (Supply id left right) = Differ (flow_of I id) (flow_of J id) (Some left) (Some right)
IsTrueOf I J (Source left right) = Differ (source_of I) (source_of J) (Some left) (Some right)
IsTrueOf I J (Sink left right) = Differ (sink_of I) (sink_of J) (Some left) (Some right)
IsTrueOf I J (Pair src dst how) = BundlesDiffer I J (src, dst) how
IsTrueOf I J (Length left right) = Differ (count_of I) (count_of J) (Some left) (Some right)
IsTrueOf I J (Item index) = ItemsDiffer I J index
IsTrueOf I J (Point id) = point_of I id ≢ point_of J id

-- the place of a verdict in the order of verdicts: its variant, and then its ID, pair or index
abbrev pub place_of : Verdict → ℤ × (ℤ × ℤ)
place_of Same = (pos 0, (pos 0, pos 0))
place_of (Kind left right) = (pos 1, (pos 0, pos 0))
place_of (Nodes left right) = (pos 2, (pos 0, pos 0))
place_of (Supply id left right) = (pos 3, (id, pos 0))
place_of (Source left right) = (pos 4, (pos 0, pos 0))
place_of (Sink left right) = (pos 5, (pos 0, pos 0))
place_of (Pair src dst how) = (pos 6, (src, dst))
place_of (Length left right) = (pos 7, (pos 0, pos 0))
place_of (Item index) = (pos 8, (pos index, pos 0))
place_of (Point id) = (pos 9, (id, pos 0))

-- the order of places, and so of verdicts
abbrev pub place_cmp : ℤ × (ℤ × ℤ) → ℤ × (ℤ × ℤ) → Ordering
place_cmp p q = ordering_then (int_cmp p.0 q.0) (pair_cmp p.1 q.1)

-- v comes before w in the order of verdicts
abbrev pub StandsEarlier : Verdict → Verdict → Type 0
StandsEarlier v w = place_cmp (place_of v) (place_of w) ≡ Less

-- v is the first difference between two instances: it is true of them, and no earlier verdict is
pub record IsFirstDifference (I J : Instance) (v : Verdict) : Type 0 where
  pub true_of : IsTrueOf I J v
  pub none_earlier : (w : Verdict) → StandsEarlier w v → IsTrueOf I J w → ⊥
