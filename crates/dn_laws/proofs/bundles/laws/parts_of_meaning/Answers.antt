use Rattle.std.proofs.Common.{sym, ap, ◌∙◌, length}
use Rattle.dn_arc_theory.proofs.CanonsLaws.{count_costs, same_canon}
use Rattle.dn_laws.proofs.bundles.laws.parts_of_meaning.Goals as goal

pub returns : goal.returns
returns c = record {
  units = λ xs ys h g s. (same_canon xs ys h g s).units;
  cost = λ xs ys h g s. (same_canon xs ys h g s).cost;
  costs = λ xs ys h g s. count_costs xs ∙ ap length (same_canon xs ys h g s).steps ∙ sym (count_costs ys);
}
