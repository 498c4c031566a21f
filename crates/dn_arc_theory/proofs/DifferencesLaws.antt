-- An amount has at most one least cost, which the meaning determines. Arcs of the same cost curve have no difference,
-- and no arcs carry amount 0 at cost 0.
use Rattle.std.proofs.Common.{◌≡◌, ℤ, pos, List, [], Option, Some, None, refl, ap}
use Rattle.std.specs.Int.Signed.{≤ℤ_refl}
use Rattle.dn_arc_theory.specs.declared.arc.CostArc.{CostArc}
use Rattle.dn_arc_theory.specs.declared.difference.How.{How}
use Rattle.dn_arc_theory.specs.declared.difference.How.TheVariants.{Lengths, Totals, Costs}
use Rattle.dn_arc_theory.specs.Splits.{LeastCost}
use Rattle.dn_arc_theory.specs.Meanings.{SameCurve}
use Rattle.dn_arc_theory.specs.Differences.{IsCostOf, CurvesDiffer}
use Rattle.dn_arc_theory.proofs.SplitsLaws.{least_bottom, bottom_least, antisym}

-- an amount has at most one least cost
pub least_cost_unique : (arcs : List CostArc) (x j k : ℤ) → LeastCost arcs x j → LeastCost arcs x k → j ≡ k
least_cost_unique arcs x j k g h =
    let a = least_bottom arcs x j g in
    let b = least_bottom arcs x k h in
    antisym j k (a.least k b.at) (b.least j a.at)

-- an amount has one least cost or none, not both
pub cost_of_one : (arcs : List CostArc) (x : ℤ) (v w : Option ℤ) → IsCostOf arcs x v → IsCostOf arcs x w → v ≡ w
cost_of_one arcs x None None g h = refl
cost_of_one arcs x None (Some k) g h = absurd (g k h)
cost_of_one arcs x (Some j) None g h = absurd (h j g)
cost_of_one arcs x (Some j) (Some k) g h = ap Some (least_cost_unique arcs x j k g h)

-- arcs that mean the same have the same least cost of an amount, or none
pub cost_of_same : (xs ys : List CostArc) (x : ℤ) (v : Option ℤ) → SameCurve xs ys → IsCostOf xs x v → IsCostOf ys x v
cost_of_same xs ys x None s h = λ k l. h k (s.back x k l)
cost_of_same xs ys x (Some k) s h = s.there x k h

-- arcs of the same cost curve have no difference
pub curves_differ : (xs ys : List CostArc) (how : How) → CurvesDiffer xs ys how → SameCurve xs ys → ⊥
curves_differ xs ys (Lengths left right) d s = d
curves_differ xs ys (Totals left right) d s = d
curves_differ xs ys (Costs gap) d s =
    d.differ (cost_of_one ys gap.amount gap.left gap.right (cost_of_same xs ys gap.amount gap.left s d.left) d.right)

-- no arcs carry amount 0 at cost 0
pub no_arcs_cost : LeastCost [] (pos 0) (pos 0)
no_arcs_cost =
    bottom_least [] (pos 0) (pos 0)
    (record { at = record { amount = refl; within = ≤ℤ_refl _ }; least = λ j s. s.within })
