use Rattle.std.proofs.Common.{inl, inr, ℤ, pos, [], ◌∷◌, Some, refl, rules}
use Rattle.dn_arc_theory.specs.declared.arc.LengthArc.{LengthArc}
use Rattle.dn_arc_theory.specs.Lengths.{LeastLength}
use Rattle.dn_arc_theory.specs.Differences.{TotalsDiffer}
use Rattle.dn_arc_theory.specs.Kinds as Arcs
use Rattle.dn_arc_theory.proofs.LengthsLaws.{length_meaning, lone}
use Rattle.dn_arc_theory.proofs.TotalKindLaws.{total_kind}
use Rattle.dn_compare.proofs.HeldVerdicts.{max_pairs}
use Rattle.dn_laws.proofs.bundles.SomeDifference.{same_by_length}
use Rattle.dn_laws.proofs.differences.ExampleLaws.{arcs_part, lengths_part}
use Rattle.dn_laws.proofs.differences.examples.pairs.Goals as goal

pub returns : goal.returns
returns c =
    let length : ℤ → LengthArc = λ w. record { length = w } in
    let least : LeastLength (length (pos 7) ∷ length (pos 3) ∷ length (pos 3) ∷ []) (pos 3) =
    record { has = inr (inl refl); least = search rules } in
    let three = same_by_length _ _ (Some (pos 3)) least (lone (length (pos 3))) in
    let four = length_meaning.same_refl (length (pos 4) ∷ []) in
    record {
      missing =
          lengths_part (lone (length (pos 0)), refl, λ e. cc) (
            λ e. three,
            (
              λ e. three,
              (
                λ e. four,
                (
                  λ e. three,
                  (λ e. cc, (λ e. cc, (λ e. three, (λ e. four, (λ e. cc, tt))))),
                ),
              ),
            ),
          );
      by_src = lengths_part (lone _, lone _, λ e. cc) (λ e. cc, (λ e. cc, (λ e. cc, (λ e. cc, tt))));
      by_dst = lengths_part (lone _, lone _, λ e. cc) (λ e. cc, (λ e. cc, (λ e. cc, (λ e. cc, tt))));
      capacities =
          max_pairs _ _ _ _ _ _ _ refl refl refl
          (arcs_part Arcs.capacities TotalsDiffer total_kind (refl, refl, λ e. cc)
          (λ e. cc, (λ e. cc, (λ e. cc, (λ e. cc, (λ e. cc, (λ e. cc, tt)))))));
    }
