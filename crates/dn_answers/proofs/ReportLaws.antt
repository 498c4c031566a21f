-- At a pair of two different nodes, the first difference is what the problems of its arcs alone have as answers.
use Rattle.std.proofs.Common.{inl, inr}
use Rattle.std.specs.Prelude.{◌≡◌, ◌≢◌, ◌⊎◌, ℤ, List, [], Option, Some, None}
use Rattle.dn_arc_theory.specs.declared.arc.LengthArc.{LengthArc}
use Rattle.dn_arc_theory.specs.declared.arc.CostArc.{CostArc}
use Rattle.dn_arc_theory.specs.declared.difference.How.{How}
use Rattle.dn_arc_theory.specs.declared.difference.How.TheVariants.{Lengths, Totals, Costs}
use Rattle.dn_arc_theory.specs.Differences.{IsLengthOf, IsCostOf}
use Rattle.dn_arc_theory.specs.Pairs.{bundle}
use Rattle.dn_arc_theory.proofs.SplitsLaws.{some_least}
use Rattle.dn_instance.specs.Instances.{Instance, MinCostFlow, MaxFlow, ShortestPaths}
use Rattle.dn_instance.specs.Validity.{IsNode, IsValid}
use Rattle.dn_instance.specs.declared.verdict.Verdict.TheVariants as Verdicts
use Rattle.dn_compare.specs.FirstDifference.{BundlesDiffer, IsFirstDifference}
use Rattle.dn_answers.specs.Parallel.{parallel, supplies_for, IsDistanceOf, IsLeastCostOf, HaveAnswers}
use Rattle.dn_answers.proofs.FlowLaws.{caps_at, caps_of}
use Rattle.dn_answers.proofs.ParallelLaws.{one_arc, split_of, length_alone, capacity_alone, cost_alone, through}
use Rattle.dn_answers.proofs.ChoiceLaws.{tail_of}

-- the least length, if there is an arc, is the distance
length_option : (n : ℤ) (p : ℤ × ℤ) (xs : List LengthArc) → p.0 ≢ p.1 → (xs ≡ []) ⊎ IsNode n p.0 → (w : Option ℤ)
    → IsLengthOf xs w → IsDistanceOf (parallel n p xs) p.0 p.1 w
length_option n p xs differ tail None e = λ walk w. rw e at (one_arc n p differ xs walk w)
length_option n p xs differ (inl e) (Some d) l = absurd (rw e at l).has
length_option n p xs differ (inr node) (Some d) l = (length_alone n p differ xs node d).1 l

-- the least cost of an amount, if it can be split, is the least cost of sending it
cost_option : (n : ℤ) (p : ℤ × ℤ) (xs : List CostArc) → p.0 ≢ p.1 → (x : ℤ) (k : Option ℤ) → IsCostOf xs x k
    → IsLeastCostOf (supplies_for p x) (parallel n p xs) k
cost_option n p xs differ x None never =
    λ flow f.
    let some = some_least xs x flow (split_of n p differ xs x flow f) in
    never some.0 some.1
cost_option n p xs differ x (Some k) l = (cost_alone n p differ xs x k).1 l

-- how the arcs of a pair differ is how the answers of their problem alone do
answers : (I J : Instance) (p : ℤ × ℤ) (how : How) → IsValid I → IsValid J → p.0 ≢ p.1 → BundlesDiffer I J p how
    → HaveAnswers I J p how
answers (MinCostFlow s G) (MinCostFlow t H) p (Costs gap) v w differ d = record {
  left = cost_option G.nodes p (bundle p G.arcs) differ gap.amount gap.left d.left;
  right = cost_option H.nodes p (bundle p H.arcs) differ gap.amount gap.right d.right;
  differ = d.differ;
  same_below = λ x k lt.
      through (cost_alone G.nodes p differ (bundle p G.arcs) x k) (cost_alone H.nodes p differ (bundle p H.arcs) x k)
      (d.same_below x k lt);
}
answers (MaxFlow a b G) (MaxFlow c d' H) p (Totals left right) v w differ d = (
  (capacity_alone G.nodes p differ (bundle p G.arcs) (caps_at p G.arcs (caps_of G.nodes G.arcs v.0.placed)) left).1
      d.0,
  (capacity_alone H.nodes p differ (bundle p H.arcs) (caps_at p H.arcs (caps_of H.nodes H.arcs w.0.placed)) right).1
      d.1,
  d.2,
)
answers (ShortestPaths G) (ShortestPaths H) p (Lengths left right) v w differ d = (
  length_option G.nodes p (bundle p G.arcs) differ (tail_of G.nodes p G.arcs v.placed) left d.0,
  length_option H.nodes p (bundle p H.arcs) differ (tail_of H.nodes p H.arcs w.placed) right d.1,
  d.2,
)
answers _ _ p how v w differ d = absurd d

pub reported : (I J : Instance) (src dst : ℤ) (how : How) → IsValid I → IsValid J → src ≢ dst
    → IsFirstDifference I J (Verdicts.Pair src dst how) → HaveAnswers I J (src, dst) how
reported I J src dst how v w differ f = answers I J (src, dst) how v w differ f.true_of
