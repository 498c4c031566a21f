-- The laws of `min` arcs as a kind. Their meaning determines their canonical arcs in each form.
use Rattle.std.proofs.Common.{◌≡◌, ◌⊎◌, ◌-◌, ◌^◌, ℤ, pos, ◌+ℤ◌, ◌*ℤ◌, ◌<ℤ◌, List, [], ◌∷◌, ◌++◌, Option, Some, None, refl, ap, subst, arith, ◌∙◌}
use Rattle.std.proofs.lemmas.Int.{ints, by_lt_z}
use Rattle.std.specs.List.{AllByRecursion}
use Rattle.dn_arc_theory.specs.declared.arc.CostArc.{CostArc}
use Rattle.dn_arc_theory.specs.declared.arc.Form.{Form}
use Rattle.dn_arc_theory.specs.declared.arc.Form.TheVariants.{One, Two}
use Rattle.dn_arc_theory.specs.declared.difference.Gap.{Gap}
use Rattle.dn_arc_theory.specs.declared.difference.How.{How}
use Rattle.dn_arc_theory.specs.declared.difference.How.TheVariants.{Costs}
use Rattle.dn_arc_theory.specs.Entries.{SpreadsForced}
use Rattle.dn_arc_theory.specs.State.Sizes.{cost_sizes}
use Rattle.dn_arc_theory.specs.Fillings.{forced_units}
use Rattle.dn_arc_theory.specs.Kinds.{costs}
use Rattle.dn_arc_theory.specs.State.Bundles.{AreDifferences, AreSizes, IsKind, IsDetermined}
use Rattle.dn_arc_theory.specs.Splits.{LeastCost}
use Rattle.dn_arc_theory.specs.Meanings.{SameCurve}
use Rattle.dn_arc_theory.specs.Canonical.{IsCostArc, AreCanonCosts}
use Rattle.dn_arc_theory.specs.Differences.{IsCostOf, IsGap, CurvesDiffer}
use Rattle.dn_arc_theory.proofs.CurvesLaws.{curve_meaning, cost_cap_same}
use Rattle.dn_arc_theory.proofs.FormsLaws.{form_one_arcs, form_two_arcs}
use Rattle.dn_arc_theory.proofs.FormTwoLaws.{determination_of_forms}
use Rattle.dn_arc_theory.proofs.DifferencesLaws.{cost_of_one, cost_of_same, curves_differ}
use Rattle.dn_arc_theory.proofs.CanonsLaws.{same_canon, entries_same, no_curve}
use Rattle.dn_arc_theory.proofs.SoundLaws.{caps_some}

abbrev arc_of : List ℤ → Option CostArc
arc_of (l ∷ c ∷ k ∷ []) = Some (record { low = l; cap = c; cost = k })
arc_of _ = None

one_arc : (a b : CostArc) → costs.numbers a ≡ costs.numbers b → a ≡ b
one_arc a b e = let s : Some a ≡ Some b = ap arc_of e in cc

cap-append : (xs ys : List CostArc) → costs.capacity (xs ++ ys) ≡ costs.capacity xs +ℤ costs.capacity ys
cap-append [] ys = omega (arith, ints)
cap-append (a ∷ xs) ys = omega (arith, ints, cap-append xs ys)

canon_arcs : (form : Form) (xs : List CostArc) → AreCanonCosts form xs → AllByRecursion IsCostArc xs
canon_arcs One xs c = form_one_arcs xs c
canon_arcs Two xs c = form_two_arcs xs c

none_canon : (form : Form) → AreCanonCosts form []
none_canon One =
    record { fixed = []; free = []; parts = refl; each_fixed = tt; near = tt; each_free = tt; ascending = tt }
none_canon Two = record { each = tt; ascending = tt; near = tt }

-- an amount has the same option of a cost on both sides, if its least costs are the same
same_option : (xs ys : List CostArc) (x : ℤ) (l r : Option ℤ) → ((k : ℤ) → LeastCost xs x k → LeastCost ys x k)
    → ((k : ℤ) → LeastCost ys x k → LeastCost xs x k) → IsCostOf xs x l → IsCostOf ys x r → l ≡ r
same_option xs ys x None r there back l' r' = cost_of_one ys x None r (λ k c. l' k (back k c)) r'
same_option xs ys x (Some j) r there back l' r' = cost_of_one ys x (Some j) r (there j l') r'

not_below : (xs ys : List CostArc) (g h : Gap) → IsGap xs ys g → IsGap xs ys h → g.amount <ℤ h.amount → ⊥
not_below xs ys g h p q lt =
    p.differ
    (same_option xs ys g.amount g.left g.right (λ k. (q.same_below g.amount k lt).0)
    (λ k. (q.same_below g.amount k lt).1) p.left p.right)

gap_same : (g h : Gap) → g.amount ≡ h.amount → g.left ≡ h.left → g.right ≡ h.right → g ≡ h
gap_same g h a l r =
    ap (λ (z : ℤ). let x : Gap = record { amount = z; left = g.left; right = g.right } in x) a
    ∙ ap (λ (z : Option ℤ). let x : Gap = record { amount = h.amount; left = z; right = g.right } in x) l
    ∙ ap (λ (z : Option ℤ). let x : Gap = record { amount = h.amount; left = h.left; right = z } in x) r

one_gap : (xs ys : List CostArc) (g h : Gap) → IsGap xs ys g → IsGap xs ys h → g ≡ h
one_gap xs ys g h p q =
    let a : g.amount ≡ h.amount =
    by_lt_z g.amount h.amount (λ lt. absurd (not_below xs ys g h p q lt)) (λ le.
    by_lt_z h.amount g.amount (λ lt. absurd (not_below xs ys h g q p lt)) (λ ge. omega (arith, ints))) in
    gap_same g h a
    (cost_of_one xs h.amount g.left h.left (rw a at p.left) q.left)
    (cost_of_one ys h.amount g.right h.right (rw a at p.right) q.right)

one_differ : (xs ys : List CostArc) (how other : How) → CurvesDiffer xs ys how → CurvesDiffer xs ys other → how ≡ other
one_differ xs ys (Costs g) (Costs h) d e = ap Costs (one_gap xs ys g h d e)
one_differ xs ys (Costs g) other d e = absurd e
one_differ xs ys how other d e = absurd d

same_gap : (xs xs' ys ys' : List CostArc) (g : Gap) → SameCurve xs xs' → SameCurve ys ys' → IsGap xs ys g
    → IsGap xs' ys' g
same_gap xs xs' ys ys' g s t p = record {
  left = cost_of_same xs xs' g.amount g.left s p.left;
  right = cost_of_same ys ys' g.amount g.right t p.right;
  differ = p.differ;
  same_below =
      λ x k lt. (
        (λ c. t.there x k ((p.same_below x k lt).0 (s.back x k c))),
        (λ c. s.there x k ((p.same_below x k lt).1 (t.back x k c))),
      );
}

same_differ : (xs xs' ys ys' : List CostArc) (how : How) → SameCurve xs xs' → SameCurve ys ys' → CurvesDiffer xs ys how
    → CurvesDiffer xs' ys' how
same_differ xs xs' ys ys' (Costs g) s t d = same_gap xs xs' ys ys' g s t d
same_differ xs xs' ys ys' how s t d = d

same_spreads : (xs ys : List CostArc) (a : CostArc) → AllByRecursion IsCostArc xs → AllByRecursion IsCostArc ys
    → SameCurve xs ys → SpreadsForced xs a → SpreadsForced ys a
same_spreads xs ys a h g s m =
    let c = same_canon xs ys h g s in
    record {
      there = rw c.units at m.there;
      adds = m.adds;
      other =
          rw (← c.units) (subst
          (λ z. (z ≡ forced_units xs *ℤ a.cost → ⊥) ⊎ (pos (2 ^ 32 - 1) <ℤ (forced_units xs +ℤ a.low))) c.cost
          m.other);
    }

pub cost_kind : IsKind costs
cost_kind = record {
  meaning = curve_meaning;
  one_arc = one_arc;
  capacity_append = cap-append;
  capacity_some = caps_some;
  canon_arcs = canon_arcs;
  none_canon = none_canon;
  nothing_listed = λ form xs c s. determination_of_forms form xs [] c (none_canon form) s;
  same_capacity = cost_cap_same;
}

pub cost_sized : AreSizes costs cost_sizes
cost_sized = record {
  same_entries = entries_same;
  same_spreads = same_spreads;
  none_entries = refl;
  no_entries = no_curve;
}

pub cost_differs : AreDifferences costs CurvesDiffer
cost_differs = record {
  none_differ = curves_differ;
  one_differ = one_differ;
  same_differ = same_differ;
}

pub cost_determined : IsDetermined costs
cost_determined form xs ys p q s = determination_of_forms form xs ys p q s
