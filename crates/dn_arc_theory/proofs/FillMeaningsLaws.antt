-- Arcs whose free capacity is sorted by ascending cost mean the same if their forced units and forced costs are equal,
-- and either the costs of filling them or their free parts are equal.
use Rattle.std.proofs.Common.{◌≡◌, ℤ, ◌+ℤ◌, ◌-ℤ◌, List, sym, ap, arith, ◌∙◌}
use Rattle.std.proofs.lemmas.Int.{ints}
use Rattle.dn_arc_theory.specs.declared.arc.CostArc.{CostArc}
use Rattle.dn_arc_theory.specs.Splits.{LeastCost}
use Rattle.dn_arc_theory.specs.Meanings.{SameCurve}
use Rattle.dn_arc_theory.specs.Fillings.{forced_units, forced_cost}
use Rattle.dn_arc_theory.specs.State.FillCosts.{free_room, fill_cost}
use Rattle.dn_arc_theory.proofs.FillsLaws.{AreOrdered, filling_of_least, least_of_filling}
use Rattle.dn_arc_theory.proofs.FormOneLaws.{IsSameFill}
use Rattle.dn_arc_theory.proofs.PartsLaws.{free_parts, room_parts, fill_parts}

one_way : (xs ys : List CostArc) → AreOrdered xs → AreOrdered ys → IsSameFill xs ys → (x k : ℤ) → LeastCost xs x k
    → LeastCost ys x k
one_way xs ys o p s x k l =
    let f = filling_of_least xs x k o l in
    let more = ap (λ z. x -ℤ z) s.units in
    least_of_filling ys x k p (record {
      low = omega (arith, ints);
      high = omega (arith, ints);
      cost =
          f.cost ∙ ap (λ z. z +ℤ fill_cost xs (x -ℤ forced_units xs)) s.cost
          ∙ ap (λ z. forced_cost ys +ℤ z)
          (s.each (x -ℤ forced_units xs) (omega (arith, ints)) f.high ∙ ap (fill_cost ys) more);
    })

flip : (xs ys : List CostArc) → IsSameFill xs ys → IsSameFill ys xs
flip xs ys s =
    record {
      units = sym s.units;
      cost = sym s.cost;
      whole = sym s.whole;
      each = λ y l u. sym (s.each y l (rw s.whole u));
    }

-- sorted arcs with equal filling costs mean the same
pub same_by_fill : (xs ys : List CostArc) → AreOrdered xs → AreOrdered ys → IsSameFill xs ys → SameCurve xs ys
same_by_fill xs ys o p s = record { there = one_way xs ys o p s; back = one_way ys xs p o (flip xs ys s) }

-- sorted arcs with equal forced units, forced costs and free parts mean the same
pub same_by_parts : (xs ys : List CostArc) → AreOrdered xs → AreOrdered ys → forced_units xs ≡ forced_units ys
    → forced_cost xs ≡ forced_cost ys → free_parts xs ≡ free_parts ys → SameCurve xs ys
same_by_parts xs ys o p u c e =
    same_by_fill xs ys o p (record {
      units = u;
      cost = c;
      whole = room_parts xs o ∙ ap free_room e ∙ sym (room_parts ys p);
      each = λ y l h. fill_parts xs o y l ∙ ap (λ l. fill_cost l y) e ∙ sym (fill_parts ys p y l);
    })
