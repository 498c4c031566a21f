-- Having the same cost curve is a meaning, and it determines the total capacity of a problem's arcs.
use Rattle.std.proofs.Common.{◌≡◌, ℤ, pos, ◌+ℤ◌, ◌*ℤ◌, ◌≤ℤ◌, List, [], ◌∷◌, refl, arith}
use Rattle.std.proofs.lemmas.Int.{ints}
use Rattle.std.specs.List.{AllByRecursion}
use Rattle.std.specs.Int.Signed.{≤ℤ_refl}
use Rattle.dn_arc_theory.specs.Kinds.{costs}
use Rattle.dn_arc_theory.specs.declared.arc.CostArc.{CostArc}
use Rattle.dn_arc_theory.specs.Meanings.{SameCurve}
use Rattle.dn_arc_theory.specs.State.Equivalences.{IsMeaning}
use Rattle.dn_arc_theory.specs.Canonical.{IsCostArc}
use Rattle.dn_arc_theory.proofs.SharesLaws.{AtMost, share_map, share_swap}
use Rattle.dn_arc_theory.proofs.SplitsLaws.{SameAbove, above, same, antisym}

above_more : (a : CostArc) (xs ys : List CostArc) → SameAbove xs ys → SameAbove (a ∷ xs) (a ∷ ys)
above_more a xs ys s = record {
  there = share_map a.low a.cap a.cost (AtMost xs) (AtMost ys) s.there;
  back = share_map a.low a.cap a.cost (AtMost ys) (AtMost xs) s.back;
}

above_swap : (a b : CostArc) (xs : List CostArc) → SameAbove (a ∷ b ∷ xs) (b ∷ a ∷ xs)
above_swap a b xs = record {
  there = share_swap a.low a.cap a.cost b.low b.cap b.cost (AtMost xs);
  back = share_swap b.low b.cap b.cost a.low a.cap a.cost (AtMost xs);
}

-- carrying each amount at no more than the same costs is a meaning
pub above_meaning : IsMeaning SameAbove
above_meaning = record {
  same_refl = λ xs. record { there = λ x k l. l; back = λ x k l. l };
  same_sym = λ xs ys s. record { there = s.back; back = s.there };
  same_trans =
      λ xs ys zs s t. record
      { there = λ x k l. t.there x k (s.there x k l); back = λ x k l. s.back x k (t.back x k l) };
  same_more = above_more;
  same_swap = above_swap;
}

pub curve_meaning : IsMeaning SameCurve
curve_meaning = record {
  same_refl = λ xs. record { there = λ x k l. l; back = λ x k l. l };
  same_sym = λ xs ys s. record { there = s.back; back = s.there };
  same_trans =
      λ xs ys zs s t. record
      { there = λ x k l. t.there x k (s.there x k l); back = λ x k l. s.back x k (t.back x k l) };
  same_more = λ a xs ys s. same (a ∷ xs) (a ∷ ys) (above_more a xs ys (above xs ys s));
  same_swap = λ a b xs. same (a ∷ b ∷ xs) (b ∷ a ∷ xs) (above_swap a b xs);
}

-- no amount above the total capacity has a cost
pub at_most_cap : (arcs : List CostArc) (x k : ℤ) → AtMost arcs x k → x ≤ℤ costs.capacity arcs
at_most_cap [] x k s = omega (arith, ints)
at_most_cap (a ∷ rest) x k s = omega (arith, ints, at_most_cap rest s.other s.spent s.rest)

-- the total capacity has a cost
record Brim (arcs : List CostArc) : Type 0 where
  cost : ℤ
  is : AtMost arcs (costs.capacity arcs) cost

brim : (arcs : List CostArc) → AllByRecursion IsCostArc arcs → Brim arcs
brim [] h = record { cost = pos 0; is = record { amount = refl; within = ≤ℤ_refl _ } }
brim (a ∷ rest) h =
    let i = brim rest h.1 in
    record {
      cost = (a.cost *ℤ a.cap) +ℤ i.cost;
      is = record {
        share = a.cap;
        other = costs.capacity rest;
        spent = i.cost;
        low_is = h.0.room;
        cap_is = ≤ℤ_refl _;
        amount = refl;
        within = ≤ℤ_refl _;
        rest = i.is;
      };
    }

no_more : (xs ys : List CostArc) → AllByRecursion IsCostArc xs → SameCurve xs ys
    → costs.capacity xs ≤ℤ costs.capacity ys
no_more xs ys h s =
    let b = brim xs h in
    at_most_cap ys (costs.capacity xs) b.cost ((above xs ys s).there (costs.capacity xs) b.cost b.is)

-- arcs of the same cost curve have the same total capacity
pub cost_cap_same : (xs ys : List CostArc) → AllByRecursion IsCostArc xs → AllByRecursion IsCostArc ys → SameCurve xs ys
    → costs.capacity xs ≡ costs.capacity ys
cost_cap_same xs ys h g s =
    antisym _ _ (no_more xs ys h s) (no_more ys xs g (record { there = s.back; back = s.there }))
