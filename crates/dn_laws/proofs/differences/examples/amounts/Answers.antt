use Rattle.std.proofs.Common.{pos, ℤ, [], ◌∷◌, refl, rules}
use Rattle.dn_arc_theory.specs.declared.arc.CostArc.{CostArc}
use Rattle.dn_arc_theory.specs.declared.difference.How.TheVariants.{Costs}
use Rattle.dn_arc_theory.specs.Meanings.{SameCurve}
use Rattle.dn_arc_theory.specs.Pairs.{bundle, pair_cmp}
use Rattle.dn_arc_theory.proofs.CostKindLaws.{cost_differs}
use Rattle.dn_arc_theory.proofs.CurvesLaws.{curve_meaning}
use Rattle.dn_arc_theory.proofs.FillMeaningsLaws.{same_by_parts}
use Rattle.dn_arc_theory.proofs.PairLaws.{pair_total}
use Rattle.dn_bundle.proofs.PartLaws.{cost_gap, right_gap, step_gap}
use Rattle.dn_compare.proofs.ArcPartings.{exact_pair}
use Rattle.dn_compare.proofs.VerdictLaws.{same_first}
use Rattle.dn_laws.proofs.differences.ExampleLaws.{costs_part}
use Rattle.dn_laws.proofs.differences.SomeVerdict.{everywhere}
use Rattle.dn_laws.specs.State.DifferenceExamples.{cost_arc_at}
use Rattle.dn_laws.proofs.differences.examples.amounts.Goals as goal

abbrev cost : ℤ → ℤ → ℤ → CostArc
cost l c k = record { low = l; cap = c; cost = k }

-- an arc that carries nothing means nothing
nothing : (p : ℤ × ℤ) → SameCurve (bundle p (cost_arc_at (pos 0) (pos 0) (pos 5) ∷ [])) []
nothing p =
    everywhere pair_cmp pair_total exact_pair
    (λ p. SameCurve (bundle p (cost_arc_at (pos 0) (pos 0) (pos 5) ∷ [])) []) p ((pos 1, pos 2) ∷ [])
    (same_by_parts _ _ (search rules) tt refl refl refl, tt) (λ h. rw (h.0) (curve_meaning.same_refl []))

pub returns : goal.returns
returns c =
    let parts = cost (pos 1) (pos 1) (pos 1) ∷ cost (pos 0) (pos 1) (pos 1) ∷ [] in
    let one = cost (pos 1) (pos 2) (pos 1) ∷ [] in
    let other = cost (pos 0) (pos 2) (pos 1) ∷ [] in
    let most = pos 9223372036854775807 in
    let next = pos 9223372036854775806 in
    record {
      least =
          costs_part
          (step_gap (pos 0) (pos 0) (pos 4) ((pos 1, pos 2) ∷ (pos 4, pos 2) ∷ []) (search rules) (pos 0) (pos 0)
          (pos 4) ((pos 1, pos 3) ∷ (pos 4, pos 1) ∷ []) (search rules) refl refl)
          (λ e. cc, (λ e. cc, (λ e. cc, (λ e. cc, tt))));
      forced_unit =
          costs_part
          (cost_differs.same_differ parts one other other (Costs _)
          (same_by_parts parts one (search rules) (search rules) refl refl refl) (curve_meaning.same_refl other)
          (right_gap (pos 1) (pos 1) (pos 2) ((pos 1, pos 1) ∷ []) (search rules) (pos 0) (pos 0) (pos 2)
          ((pos 1, pos 2) ∷ []) (search rules) (search rules))) (λ e. cc, (λ e. cc, tt));
      forced_costs =
          costs_part
          (cost_gap (pos 1) (pos 4) (pos 1) [] (search rules) (pos 1) (pos 5) (pos 1) [] (search rules) refl
          (λ e. cc)) (λ e. cc, (λ e. cc, tt));
      past_capacity =
          costs_part
          (step_gap (pos 0) (pos 0) (pos 2) ((pos 4, pos 2) ∷ []) (search rules) (pos 0) (pos 0) (pos 3)
          ((pos 4, pos 3) ∷ []) (search rules) refl refl) (λ e. cc, (λ e. cc, tt));
      greatest =
          costs_part
          (step_gap (pos 0) (pos 0) most ((pos 1, most) ∷ []) (search rules) (pos 0) (pos 0) next ((pos 1, next) ∷ [])
          (search rules) refl refl) (λ e. cc, (λ e. cc, tt));
      same = same_first _ _ (refl, record { nodes = refl; bundles = nothing });
    }
