use Rattle.std.proofs.Common.{ap, refl, ℤ}
use Rattle.dn_compare.proofs.HeldVerdicts.{inner, points_first, queries_first, sources_first}
use Rattle.dn_laws.proofs.differences.ExampleLaws.{map_part}
use Rattle.dn_laws.proofs.differences.SomeVerdict.{first_place, later_place}
use Rattle.dn_laws.proofs.differences.examples.items.Goals as goal

pub returns : goal.returns
returns c = record {
  length = sources_first _ _ _ (refl, refl, λ e. cc);
  item = sources_first _ _ _ (refl, later_place _ _ _ _ 1 refl (first_place _ _ _ _ (λ e. cc)));
  query_length = queries_first _ _ _ (refl, refl, λ e. cc);
  query = queries_first _ _ _ (refl, first_place _ _ _ _ (λ e. cc (ap (λ (p : ℤ × ℤ). p.0) e)));
  missing_point = points_first _ _ _ (map_part refl (λ e. cc) (λ e. cc, (λ e. cc, (λ e. cc, tt))));
  two_points =
      points_first _ _ _ (map_part refl (inner _ _ (λ e. cc (ap (λ (p : ℤ × ℤ). p.0) e)))
      (λ e. cc, (λ e. cc, (λ e. cc, (λ e. cc, tt)))));
}
