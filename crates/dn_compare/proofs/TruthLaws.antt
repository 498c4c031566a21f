-- Lemmas on which verdicts are true: they depend on the meaning, can be exchanged, and at most one is true at a place.
use Rattle.std.proofs.Common.{◌≡◌, ℕ, ℤ, pos, refl, sym, ap}
use Rattle.dn_arc_theory.specs.declared.difference.How.{How}
use Rattle.dn_arc_theory.specs.declared.difference.How.TheVariants.{Lengths, Totals, Costs}
use Rattle.dn_arc_theory.proofs.CostKindLaws.{cost_differs}
use Rattle.dn_arc_theory.proofs.TotalKindLaws.{total_differs}
use Rattle.dn_arc_theory.proofs.LengthKindLaws.{length_differs}
use Rattle.dn_arc_theory.specs.Pairs.{bundle}
use Rattle.dn_instance.specs.Instances.{Instance, MinCostFlow, MaxFlow, ShortestPaths, Sources, Queries, Coordinates, kind_of, nodes_of}
use Rattle.dn_instance.specs.Sameness.{IsSame}
use Rattle.dn_instance.proofs.SameLaws.{sym_of, trans_of}
use Rattle.dn_compare.specs.Observed.{flow_of, source_of, sink_of, count_of, point_of}
use Rattle.dn_compare.specs.FirstDifference.{BundlesDiffer, ItemsDiffer, IsTrueOf, place_of}
use Rattle.dn_instance.specs.State.Turned.{turned, turned_how}
use Rattle.dn_instance.specs.declared.verdict.Verdict.{Verdict}
use Rattle.dn_instance.specs.declared.verdict.Verdict.TheVariants as Verdicts

one_how : (I J : Instance) (p : ℤ × ℤ) (how other : How) → BundlesDiffer I J p how → BundlesDiffer I J p other
    → how ≡ other
one_how (MinCostFlow s G) (MinCostFlow t H) p how other d e = cost_differs.one_differ _ _ how other d e
one_how (MaxFlow a b G) (MaxFlow c f H) p how other d e =
    total_differs.one_differ (bundle p G.arcs) (bundle p H.arcs) how other d e
one_how (ShortestPaths G) (ShortestPaths H) p how other d e =
    length_differs.one_differ (bundle p G.arcs) (bundle p H.arcs) how other d e
one_how _ _ p how other d e = absurd d

-- at each place at most one verdict is true
pub one_at : (I J : Instance) (v w : Verdict) → IsTrueOf I J v → IsTrueOf I J w → place_of v ≡ place_of w → v ≡ w
one_at I J Verdicts.Same Verdicts.Same d e h = refl
one_at I J (Verdicts.Kind l r) (Verdicts.Kind l' r') d e h = cc
one_at I J (Verdicts.Nodes l r) (Verdicts.Nodes l' r') d e h = cc
one_at I J (Verdicts.Supply i l r) (Verdicts.Supply j l' r') d e h =
    let id : i ≡ j = ap (λ (p : ℤ × (ℤ × ℤ)). p.1.0) h in
    cc (ap (flow_of I) id, ap (flow_of J) id)
one_at I J (Verdicts.Source l r) (Verdicts.Source l' r') d e h = cc
one_at I J (Verdicts.Sink l r) (Verdicts.Sink l' r') d e h = cc
one_at I J (Verdicts.Pair u v how) (Verdicts.Pair u' v' other) d e h =
    let src : u ≡ u' = ap (λ (p : ℤ × (ℤ × ℤ)). p.1.0) h in
    let dst : v ≡ v' = ap (λ (p : ℤ × (ℤ × ℤ)). p.1.1) h in
    cc (one_how I J (u, v) how other d (rw (src, dst) e))
one_at I J (Verdicts.Length l r) (Verdicts.Length l' r') d e h = cc
one_at I J (Verdicts.Item i) (Verdicts.Item j) d e h =
    (let index : pos i ≡ pos j = ap (λ (p : ℤ × (ℤ × ℤ)). p.1.0) h in cc)
one_at I J (Verdicts.Point i) (Verdicts.Point j) d e h = (let id : i ≡ j = ap (λ (p : ℤ × (ℤ × ℤ)). p.1.0) h in cc)
one_at I J _ _ d e h = (let variant = ap (λ (p : ℤ × (ℤ × ℤ)). p.0) h in cc)

-- instances that are the same problem have the same compared values
abbrev pub SeenSame : Instance → Instance → Type 0
SeenSame I I' = record {
  kind : kind_of I ≡ kind_of I';
  nodes : nodes_of I ≡ nodes_of I';
  flow : (id : ℤ) → flow_of I id ≡ flow_of I' id;
  source : source_of I ≡ source_of I';
  sink : sink_of I ≡ sink_of I';
  count : count_of I ≡ count_of I';
  point : (id : ℤ) → point_of I id ≡ point_of I' id;
}

pub seen : (I I' : Instance) → IsSame I I' → SeenSame I I'
seen (MinCostFlow s G) (MinCostFlow t H) e = rw (e.0, e.1.nodes) assumption
seen (MaxFlow a b G) (MaxFlow c d H) e = rw (e.0, e.1, e.2.nodes) assumption
seen (ShortestPaths G) (ShortestPaths H) e = rw e.nodes assumption
seen (Sources xs) (Sources ys) e = rw e assumption
seen (Queries xs) (Queries ys) e = rw e assumption
seen (Coordinates xs) (Coordinates ys) e = rw e assumption
seen _ _ e = absurd e

bundles_same : (I I' J J' : Instance) (p : ℤ × ℤ) (how : How) → IsSame I I' → IsSame J J' → BundlesDiffer I J p how
    → BundlesDiffer I' J' p how
bundles_same (MinCostFlow s G) (MinCostFlow u K) (MinCostFlow t H) (MinCostFlow v L) p how e f d =
    cost_differs.same_differ _ _ _ _ how (e.1.bundles p) (f.1.bundles p) d
bundles_same (MaxFlow s t G) (MaxFlow u v K) (MaxFlow a b H) (MaxFlow c g L) p how e f d =
    total_differs.same_differ _ _ _ _ how (e.2.bundles p) (f.2.bundles p) d
bundles_same (ShortestPaths G) (ShortestPaths K) (ShortestPaths H) (ShortestPaths L) p how e f d =
    length_differs.same_differ _ _ _ _ how (e.bundles p) (f.bundles p) d
bundles_same _ _ _ _ p how e f d = absurd (search)

items_same : (I I' J J' : Instance) (i : ℕ) → IsSame I I' → IsSame J J' → ItemsDiffer I J i → ItemsDiffer I' J' i
items_same (Sources xs) (Sources xs') (Sources ys) (Sources ys') i e f d = rw (← e, ← f) d
items_same (Queries xs) (Queries xs') (Queries ys) (Queries ys') i e f d = rw (← e, ← f) d
items_same _ _ _ _ i e f d = absurd (search)

items_turned : (I J : Instance) (i : ℕ) → ItemsDiffer I J i → ItemsDiffer J I i
items_turned (Sources xs) (Sources ys) i d = λ h. d (sym h)
items_turned (Queries xs) (Queries ys) i d = λ h. d (sym h)
items_turned _ _ i d = absurd d

-- a verdict on two instances is true of any instances that are the same problems
pub true_by_meaning : (I I' J J' : Instance) (v : Verdict) → IsSame I I' → IsSame J J' → IsTrueOf I J v
    → IsTrueOf I' J' v
true_by_meaning I I' J J' v e f t = by_verdict v (seen I I' e) (seen J J' f) t
  where
    by_verdict : (v : Verdict) → SeenSame I I' → SeenSame J J' → IsTrueOf I J v → IsTrueOf I' J' v
    by_verdict Verdicts.Same s u t = trans_of I' J J' (trans_of I' I J (sym_of I I' e) t) f
    by_verdict (Verdicts.Kind l r) s u t = rw (s.kind, u.kind) at t
    by_verdict (Verdicts.Nodes l r) s u t = rw (s.nodes, u.nodes) at t
    by_verdict (Verdicts.Supply id l r) s u t = rw (s.flow id, u.flow id) at t
    by_verdict (Verdicts.Source l r) s u t = rw (s.source, u.source) at t
    by_verdict (Verdicts.Sink l r) s u t = rw (s.sink, u.sink) at t
    by_verdict (Verdicts.Pair src dst how) s u t = bundles_same I I' J J' (src, dst) how e f t
    by_verdict (Verdicts.Length l r) s u t = rw (s.count, u.count) at t
    by_verdict (Verdicts.Item i) s u t = items_same I I' J J' i e f t
    by_verdict (Verdicts.Point id) s u t = rw (s.point id, u.point id) at t

bundles_turned : (I J : Instance) (p : ℤ × ℤ) (how : How) → BundlesDiffer I J p how
    → BundlesDiffer J I p (turned_how how)
bundles_turned (MinCostFlow s G) (MinCostFlow t H) p (Costs g) d = record {
  left = d.right;
  right = d.left;
  differ = λ e. d.differ (sym e);
  same_below = λ x k lt. ((d.same_below x k lt).1, (d.same_below x k lt).0);
}
bundles_turned (MaxFlow a b G) (MaxFlow c f H) p (Totals l r) d = (d.1, d.0, λ e. d.2 (sym e))
bundles_turned (ShortestPaths G) (ShortestPaths H) p (Lengths l r) d = (d.1, d.0, λ e. d.2 (sym e))
bundles_turned _ _ p how d = absurd d

-- if a verdict is true of two instances, the exchanged verdict is true of them in the other order
pub true_turned : (I J : Instance) (v : Verdict) → IsTrueOf I J v → IsTrueOf J I (turned v)
true_turned I J Verdicts.Same t = sym_of I J t
true_turned I J (Verdicts.Pair src dst how) t = bundles_turned I J (src, dst) how t
true_turned I J (Verdicts.Item i) t = items_turned I J i t
true_turned I J (Verdicts.Point id) t = λ e. t (sym e)
true_turned I J _ t = (t.1, t.0, λ e. t.2 (sym e))

-- instances that are the same problem differ at no pair
pub no_bundles : (I J : Instance) (p : ℤ × ℤ) (how : How) → IsSame I J → BundlesDiffer I J p how → ⊥
no_bundles (MinCostFlow s G) (MinCostFlow t H) p how e d = cost_differs.none_differ _ _ how d (e.1.bundles p)
no_bundles (MaxFlow a b G) (MaxFlow c f H) p how e d =
    total_differs.none_differ (bundle p G.arcs) (bundle p H.arcs) how d (e.2.bundles p)
no_bundles (ShortestPaths G) (ShortestPaths H) p how e d =
    length_differs.none_differ (bundle p G.arcs) (bundle p H.arcs) how d (e.bundles p)
no_bundles _ _ p how e d = absurd d

pub no_items : (I J : Instance) (i : ℕ) → IsSame I J → ItemsDiffer I J i → ⊥
no_items (Sources xs) (Sources ys) i e d = d (rw e)
no_items (Queries xs) (Queries ys) i e d = d (rw e)
no_items _ _ i e d = absurd d
