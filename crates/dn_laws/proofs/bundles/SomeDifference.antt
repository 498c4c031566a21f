-- Lemmas that arcs that do not mean the same have a first difference.
use Rattle.std.proofs.Common.{◌≡◌, ◌≢◌, ◌⊎◌, inl, inr, ℕ, suc, zero, ℤ, pos, negsuc, ◌+ℤ◌, ◌≤ℤ◌, ◌<ℤ◌, ◌↔◌, List, [], ◌∷◌, Option, Some, None, refl, ap, arith}
use Rattle.std.specs.List.{AllByRecursion}
use Rattle.std.proofs.lemmas.Int.{ints, by_lt_z}
use Rattle.dn_arc_theory.specs.Kinds.{costs}
use Rattle.dn_arc_theory.specs.declared.arc.LengthArc.{LengthArc}
use Rattle.dn_arc_theory.specs.declared.arc.CapArc.{CapArc}
use Rattle.dn_arc_theory.specs.declared.arc.CostArc.{CostArc}
use Rattle.dn_arc_theory.specs.declared.difference.Gap.{Gap}
use Rattle.dn_arc_theory.specs.declared.difference.How.{How}
use Rattle.dn_arc_theory.specs.declared.difference.How.TheVariants.{Lengths, Totals, Costs}
use Rattle.dn_arc_theory.specs.Capacities.{total_cap}
use Rattle.dn_arc_theory.specs.Lengths.{LeastLength}
use Rattle.dn_arc_theory.specs.Splits.{LeastCost}
use Rattle.dn_arc_theory.specs.Meanings.{SameLength, SameTotal, SameCurve}
use Rattle.dn_arc_theory.specs.Canonical.{IsCostArc}
use Rattle.dn_arc_theory.specs.Differences.{IsLengthOf, IsCostOf, IsGap, LengthsDiffer, TotalsDiffer, CurvesDiffer}
use Rattle.dn_arc_theory.proofs.SharesLaws.{AtMost}
use Rattle.dn_arc_theory.proofs.SplitsLaws as Splits
use Rattle.dn_arc_theory.proofs.LengthsLaws as Least
use Rattle.dn_arc_theory.proofs.CurvesLaws.{at_most_cap}
use Rattle.dn_arc_theory.proofs.CostKindLaws.{cost_kind}
use Rattle.dn_arc_theory.proofs.DifferencesLaws.{least_cost_unique}

-- two numbers are equal, or they are not
pub same_or_not : (a b : ℤ) → (a ≡ b) ⊎ (a ≢ b)
same_or_not a b =
    by_lt_z a b (λ lt. inr (λ e. absurd (omega (arith, ints, e))))
    (λ le. by_lt_z b a (λ gt. inr (λ e. absurd (omega (arith, ints, e)))) (λ ge. inl (omega (arith, ints))))

pub same_option_or_not : {A : Type 0} → ((a b : A) → (a ≡ b) ⊎ (a ≢ b)) → (a b : Option A) → (a ≡ b) ⊎ (a ≢ b)
same_option_or_not decide None None = inl refl
same_option_or_not decide None (Some b) = inr (λ e. cc)
same_option_or_not decide (Some a) None = inr (λ e. cc)
same_option_or_not decide (Some a) (Some b) =
    elim (decide a b) [ inl e ↦ inl (ap Some e) | inr n ↦ inr (λ e. n cc) ]

-- ---- lengths

length_found : (xs : List LengthArc) → (w : Option ℤ) × IsLengthOf xs w
length_found xs = elim (Least.least_of xs) [ inl e ↦ (None, e) | inr p ↦ (Some p.0, p.1) ]

length_there : (xs ys : List LengthArc) (w : Option ℤ) → IsLengthOf xs w → IsLengthOf ys w → (v : ℤ) → LeastLength xs v
    → LeastLength ys v
length_there xs ys None h g v l = absurd (rw h at l).has
length_there xs ys (Some w) h g v l = rw (Least.least_unique xs w v h l) at g

-- lists with the same least length, or with none, mean the same
pub same_by_length : (xs ys : List LengthArc) (w : Option ℤ) → IsLengthOf xs w → IsLengthOf ys w → SameLength xs ys
same_by_length xs ys w l r = record { there = length_there xs ys w l r; back = length_there ys xs w r l }

pub length_or_differ : (xs ys : List LengthArc) → SameLength xs ys ⊎ ((how : How) × LengthsDiffer xs ys how)
length_or_differ xs ys =
    let l = length_found xs in
    let r = length_found ys in
    elim (same_option_or_not same_or_not l.0 r.0) [
      | inl e ↦ inl (same_by_length xs ys l.0 l.1 (rw e (r.1)))
      | inr n ↦ inr (Lengths l.0 r.0, (l.1, r.1, n))
    ]

-- ---- capacities

pub total_or_differ : (xs ys : List CapArc) → SameTotal xs ys ⊎ ((how : How) × TotalsDiffer xs ys how)
total_or_differ xs ys = elim (same_or_not (total_cap xs) (total_cap ys)) [
  | inl e ↦ inl (record { is = e })
  | inr n ↦ inr (Totals (total_cap xs) (total_cap ys), (refl, refl, n))
]

-- ---- costs

cost_found : (xs : List CostArc) (x : ℤ) → (k : Option ℤ) × IsCostOf xs x k
cost_found xs x = elim (Splits.least_of xs x) [
  | inl never ↦ (None, λ k l. never k (Splits.least_bottom xs x k l).at)
  | inr b ↦ (Some b.0, Splits.bottom_least xs x b.0 b.1)
]

cost_there : (xs ys : List CostArc) (x : ℤ) (c : Option ℤ) → IsCostOf xs x c → IsCostOf ys x c → (k : ℤ)
    → LeastCost xs x k → LeastCost ys x k
cost_there xs ys x None h g k l = absurd (h k l)
cost_there xs ys x (Some c) h g k l = rw (least_cost_unique xs x c k h l) at g

-- no amount below 0 has a cost
some_amount : (arcs : List CostArc) (x k : ℤ) → AllByRecursion IsCostArc arcs → AtMost arcs x k → pos 0 ≤ℤ x
some_amount [] x k h s = let e = s.amount in omega (arith, ints)
some_amount (a ∷ rest) x k h s =
    let i = some_amount rest s.other s.spent h.1 s.rest in
    let e = s.amount in
    let l = s.low_is in
    let low = h.0.some in
    omega (arith, ints)

module _ (xs ys : List CostArc) where
  -- the same least costs at every amount below this one
  abbrev SameBelow : ℤ → Type 0
  SameBelow n = (x k : ℤ) → x <ℤ n → LeastCost xs x k ↔ LeastCost ys x k

  abbrev AnyGap : Type 0
  AnyGap = (gap : Gap) × IsGap xs ys gap

  -- the same least costs up to an amount are the same up to the next one, or there is a gap
  further : (n : ℤ) → SameBelow n → SameBelow (n +ℤ pos 1) ⊎ AnyGap
  further n same =
      let l = cost_found xs n in
      let r = cost_found ys n in
      elim (same_option_or_not same_or_not l.0 r.0) [
        | inl e ↦
            (let right : IsCostOf ys n l.0 = rw e (r.1) in
            inl (λ x k lt. by_lt_z x n (same x k) (λ le.
            let here : x ≡ n = omega (arith, ints) in
            rw here (cost_there xs ys n l.0 l.1 right k, cost_there ys xs n l.0 right l.1 k))))
        | inr d ↦ inr (
          record { amount = n; left = l.0; right = r.0 },
          record { left = l.1; right = r.1; differ = d; same_below = same },
        )
      ]

  -- up to an amount the least costs are the same, or there is a gap
  search_gap : (n : ℕ) → SameBelow (pos 0) → SameBelow (pos n) ⊎ AnyGap
  search_gap zero none = inl none
  search_gap (suc n) none = elim (search_gap n none) [
    | inl same ↦ (let e : pos (suc n) ≡ pos n +ℤ pos 1 = omega (arith, ints) in rw e (further (pos n) same))
    | inr gap ↦ inr gap
  ]

  module _ (h : AllByRecursion IsCostArc xs) (g : AllByRecursion IsCostArc ys) where
    none_below : SameBelow (pos 0)
    none_below x k lt = (
      λ l. absurd (omega (arith, ints, some_amount xs x k h (Splits.least_bottom xs x k l).at)),
      λ l. absurd (omega (arith, ints, some_amount ys x k g (Splits.least_bottom ys x k l).at)),
    )

    -- if the least costs are the same up to both capacities, the lists mean the same
    past_both : (n : ℤ) → costs.capacity xs <ℤ n → costs.capacity ys <ℤ n → SameBelow n → SameCurve xs ys
    past_both n p q same = record {
      there =
          λ x k l. by_lt_z x n (λ lt. (same x k lt).0 l)
          (λ le. absurd (omega (arith, ints, at_most_cap xs x k (Splits.least_bottom xs x k l).at)));
      back =
          λ x k l. by_lt_z x n (λ lt. (same x k lt).1 l)
          (λ le. absurd (omega (arith, ints, at_most_cap ys x k (Splits.least_bottom ys x k l).at)));
    }

    pub curve_or_differ : SameCurve xs ys ⊎ ((how : How) × CurvesDiffer xs ys how)
    curve_or_differ =
        by_room (costs.capacity xs +ℤ costs.capacity ys) refl
        (cost_kind.capacity_some xs h) (cost_kind.capacity_some ys g)
      where
        by_room : (n : ℤ) → n ≡ costs.capacity xs +ℤ costs.capacity ys → pos 0 ≤ℤ costs.capacity xs
            → pos 0 ≤ℤ costs.capacity ys
            → SameCurve xs ys ⊎ ((how : How) × CurvesDiffer xs ys how)
        by_room (pos n) e l r = elim (search_gap (suc n) none_below) [
          | inl same ↦ inl (past_both (pos (suc n)) (omega (arith, ints)) (omega (arith, ints)) same)
          | inr gap ↦ inr (Costs gap.0, gap.1)
        ]
        by_room (negsuc n) e l r = absurd (omega (arith, ints))
