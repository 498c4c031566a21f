use Rattle.std.proofs.Common.{refl}
use Rattle.dn_compare.proofs.FirstLaws.{kind_first, nodes_first, sink_first, source_first}
use Rattle.dn_compare.proofs.HeldVerdicts.{supply_at}
use Rattle.dn_laws.proofs.differences.ExampleLaws.{map_part}
use Rattle.dn_laws.proofs.differences.examples.heads.Goals as goal

pub returns : goal.returns
returns c = record {
  kinds = kind_first _ _ (λ e. cc);
  nodes = nodes_first _ _ refl (λ e. cc);
  missing_supply = supply_at _ _ _ _ _ _ _ refl (map_part refl (refl, refl, λ e. cc) (λ e. cc, tt));
  two_supplies =
      supply_at _ _ _ _ _ _ _ refl
      (map_part refl (refl, refl, λ e. cc) (λ e. cc, (λ e. cc, (λ e. cc, (λ e. cc, tt)))));
  source = source_first _ _ refl refl (λ id. refl) _ _ (refl, refl, λ e. cc);
  sink = sink_first _ _ refl refl (λ id. refl) refl _ _ (refl, refl, λ e. cc);
}
