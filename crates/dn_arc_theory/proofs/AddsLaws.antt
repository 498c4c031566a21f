-- One more arc adds its LOW to the forced units and its free part to the free arcs. Two free arcs of one cost mean the
-- same as one, and a free arc without capacity means nothing.
use Rattle.std.proofs.Common.{◌≡◌, ℤ, pos, ◌+ℤ◌, ◌-ℤ◌, ◌*ℤ◌, ◌≤ℤ◌, List, [], ◌∷◌, ◌++◌, refl, ap, arith}
use Rattle.std.proofs.lemmas.Int.{ints, by_lt_z}
use Rattle.std.specs.List.{AllByRecursion}
use Rattle.std.specs.Int.Signed.{≤ℤ_refl}
use Rattle.dn_arc_theory.specs.declared.arc.CostArc.{CostArc}
use Rattle.dn_arc_theory.specs.Meanings.{SameCurve}
use Rattle.dn_arc_theory.specs.Canonical.{IsFixedArc}
use Rattle.dn_arc_theory.specs.Fillings.{forced_units, forced_cost}
use Rattle.dn_arc_theory.specs.State.CurveListed.{free_arc}
use Rattle.dn_arc_theory.proofs.ProductsLaws.{mul_add, mul_sub}
use Rattle.dn_arc_theory.proofs.SharesLaws.{Share, AtMost, more}
use Rattle.dn_arc_theory.proofs.SplitsLaws.{SameAbove, same}
use Rattle.dn_arc_theory.proofs.CurvesLaws.{above_meaning}
use Rattle.dn_arc_theory.proofs.OrdersLaws.{at_end}

-- removing the fixed arcs subtracts the forced units and their cost
off : (fixed rest : List CostArc) (x k : ℤ) → AllByRecursion IsFixedArc fixed → AtMost (fixed ++ rest) x k
    → AtMost rest (x -ℤ forced_units fixed) (k -ℤ forced_cost fixed)
off [] rest x k f s =
    let e : x -ℤ pos 0 ≡ x = omega (arith, ints) in
    rw e (more rest x k (k -ℤ pos 0) (omega (arith, ints)) s)
off (a ∷ fixed) rest x k f s =
    let p : a.cost *ℤ s.share ≡ a.cost *ℤ a.low = ap (λ y. a.cost *ℤ y) (omega (arith, ints)) in
    let e : x -ℤ forced_units (a ∷ fixed) ≡ s.other -ℤ forced_units fixed = omega (arith, ints) in
    rw e (more rest _ _ _ (omega (arith, ints)) (off fixed rest s.other s.spent f.1 s.rest))

-- adding the fixed arcs adds the forced units and their cost
on : (fixed rest : List CostArc) (y j : ℤ) → AllByRecursion IsFixedArc fixed → AtMost rest y j
    → AtMost (fixed ++ rest) (forced_units fixed +ℤ y) (forced_cost fixed +ℤ j)
on [] rest y j f s =
    let e : pos 0 +ℤ y ≡ y = omega (arith, ints) in
    rw e (more rest y j (pos 0 +ℤ j) (omega (arith, ints)) s)
on (a ∷ fixed) rest y j f s =
    record {
      share = a.low;
      other = forced_units fixed +ℤ y;
      spent = forced_cost fixed +ℤ j;
      low_is = ≤ℤ_refl _;
      cap_is = omega (arith, ints);
      amount = omega (arith, ints);
      within = omega (arith, ints);
      rest = on fixed rest y j f.1 s;
    }

-- an arc without capacity can be removed from a split
none_there : (cost room : ℤ) (xs : List CostArc) → room ≡ pos 0 → (x k : ℤ) → Share (pos 0) room cost (AtMost xs) x k
    → AtMost xs x k
none_there cost room xs e x k s =
    let p : cost *ℤ s.share ≡ cost *ℤ pos 0 = ap (λ y. cost *ℤ y) (omega (arith, ints)) in
    let e : x ≡ s.other = omega (arith, ints) in
    rw e (more xs s.other s.spent k (omega (arith, ints)) s.rest)

none_back : (cost room : ℤ) (xs : List CostArc) → room ≡ pos 0 → (x k : ℤ) → AtMost xs x k
    → Share (pos 0) room cost (AtMost xs) x k
none_back cost room xs e x k s =
    record {
      share = pos 0;
      other = x;
      spent = k;
      low_is = ≤ℤ_refl _;
      cap_is = omega (arith, ints);
      amount = omega (arith, ints);
      within = omega (arith, ints);
      rest = s;
    }

-- an arc without capacity means nothing
pub above_none : (cost room : ℤ) (xs : List CostArc) → room ≡ pos 0 → SameAbove (free_arc cost room ∷ xs) xs
above_none cost room xs e = record { there = none_there cost room xs e; back = none_back cost room xs e }

merge_there : (cost u w : ℤ) (R : ℤ → ℤ → Type 0) → pos 0 ≤ℤ u → pos 0 ≤ℤ w → (x k : ℤ)
    → Share (pos 0) (u +ℤ w) cost R x k → Share (pos 0) w cost (Share (pos 0) u cost R) x k
merge_there cost u w R h g x k s =
    let first : (v y : ℤ) → pos 0 ≤ℤ y → y ≤ℤ u → v ≡ y +ℤ s.other → Share (pos 0) u cost R v ((cost *ℤ y) +ℤ s.spent) =
    λ v y l c e. record {
      share = y;
      other = s.other;
      spent = s.spent;
      low_is = l;
      cap_is = c;
      amount = e;
      within = ≤ℤ_refl _;
      rest = s.rest;
    } in
    by_lt_z w s.share
    (λ past.
    let m = mul_sub cost s.share w in
    record {
      share = w;
      other = (s.share -ℤ w) +ℤ s.other;
      spent = (cost *ℤ (s.share -ℤ w)) +ℤ s.spent;
      low_is = g;
      cap_is = ≤ℤ_refl _;
      amount = omega (arith, ints);
      within = omega (arith, ints);
      rest = first _ (s.share -ℤ w) (omega (arith, ints)) (omega (arith, ints)) refl;
    })
    (λ under. record {
      share = s.share;
      other = s.other;
      spent = (cost *ℤ pos 0) +ℤ s.spent;
      low_is = s.low_is;
      cap_is = under;
      amount = s.amount;
      within = omega (arith, ints);
      rest = first _ (pos 0) (≤ℤ_refl _) h (omega (arith, ints));
    })

merge_back : (cost u w : ℤ) (R : ℤ → ℤ → Type 0) (x k : ℤ) → Share (pos 0) w cost (Share (pos 0) u cost R) x k
    → Share (pos 0) (u +ℤ w) cost R x k
merge_back cost u w R x k s =
    let t = s.rest in
    let p = mul_add cost s.share t.share in
    record {
      share = s.share +ℤ t.share;
      other = t.other;
      spent = t.spent;
      low_is = omega (arith, ints);
      cap_is = omega (arith, ints);
      amount = omega (arith, ints);
      within = omega (arith, ints);
      rest = t.rest;
    }

-- two free arcs of one cost mean the same as one
pub above_merge : (cost u w : ℤ) (xs : List CostArc) → pos 0 ≤ℤ u → pos 0 ≤ℤ w
    → SameAbove (free_arc cost (u +ℤ w) ∷ xs) (free_arc cost w ∷ free_arc cost u ∷ xs)
above_merge cost u w xs h g =
    record { there = merge_there cost u w (AtMost xs) h g; back = merge_back cost u w (AtMost xs) }

part_there : (low cap cost : ℤ) (R : ℤ → ℤ → Type 0) (x k : ℤ) → Share low cap cost R x k
    → Share (pos 0) (cap -ℤ low) cost R (x -ℤ low) (k -ℤ (cost *ℤ low))
part_there low cap cost R x k s =
    let m = mul_sub cost s.share low in
    record {
      share = s.share -ℤ low;
      other = s.other;
      spent = s.spent;
      low_is = omega (arith, ints);
      cap_is = omega (arith, ints);
      amount = omega (arith, ints);
      within = omega (arith, ints);
      rest = s.rest;
    }

part_back : (low cap cost : ℤ) (R : ℤ → ℤ → Type 0) (x k : ℤ) → Share (pos 0) (cap -ℤ low) cost R x k
    → Share low cap cost R (low +ℤ x) ((cost *ℤ low) +ℤ k)
part_back low cap cost R x k s =
    let m = mul_add cost low s.share in
    record {
      share = low +ℤ s.share;
      other = s.other;
      spent = s.spent;
      low_is = omega (arith, ints);
      cap_is = omega (arith, ints);
      amount = omega (arith, ints);
      within = omega (arith, ints);
      rest = s.rest;
    }

at_values : (arcs : List CostArc) (x y k j : ℤ) → x ≡ y → k ≡ j → AtMost arcs x k → AtMost arcs y j
at_values arcs x y k j e f s = rw (← e) (rw f at s)

add_above : (fixed fixed' free free' : List CostArc) (a : CostArc) → AllByRecursion IsFixedArc fixed
    → AllByRecursion IsFixedArc fixed'
    → forced_units fixed' ≡ forced_units fixed +ℤ a.low
    → forced_cost fixed' ≡ forced_cost fixed +ℤ (a.cost *ℤ a.low)
    → SameAbove free' (free_arc a.cost (a.cap -ℤ a.low) ∷ free)
    → SameAbove (fixed' ++ free') (fixed ++ a ∷ free)
add_above fixed fixed' free free' a f g u c s = record {
  there = λ x k r.
      let whole = s.there _ _ (off fixed' free' x k g r) in
      let back = part_back a.low a.cap a.cost (AtMost free) _ _ whole in
      at_values (fixed ++ a ∷ free) _ x _ k (omega (arith, ints)) (omega (arith, ints))
      (on fixed (a ∷ free) _ _ f back);
  back = λ x k r.
      let part = part_there a.low a.cap a.cost (AtMost free) _ _ (off fixed (a ∷ free) x k f r) in
      at_values (fixed' ++ free') _ x _ k (omega (arith, ints)) (omega (arith, ints))
      (on fixed' free' _ _ g (s.back _ _ part));
}

-- one more arc adds its forced units and their cost, and its free part becomes one more free arc
pub add_end : (fixed fixed' free free' : List CostArc) (a : CostArc) → AllByRecursion IsFixedArc fixed
    → AllByRecursion IsFixedArc fixed'
    → forced_units fixed' ≡ forced_units fixed +ℤ a.low
    → forced_cost fixed' ≡ forced_cost fixed +ℤ (a.cost *ℤ a.low)
    → SameAbove free' (free_arc a.cost (a.cap -ℤ a.low) ∷ free)
    → SameCurve (fixed' ++ free') ((fixed ++ free) ++ a ∷ [])
add_end fixed fixed' free free' a f g u c s =
    same _ _ (above_meaning.same_trans _ _ _ (add_above fixed fixed' free free' a f g u c s)
    (above_meaning.same_trans _ _ _ (middle fixed)
    (above_meaning.same_sym _ _ (at_end SameAbove above_meaning (fixed ++ free) a))))
  where
    middle : (xs : List CostArc) → SameAbove (xs ++ a ∷ free) (a ∷ (xs ++ free))
    middle [] = above_meaning.same_refl _
    middle (x ∷ xs) =
        above_meaning.same_trans _ _ _ (above_meaning.same_more x _ _ (middle xs))
        (above_meaning.same_swap x a (xs ++ free))
