-- Bundles that mean the same carry the same units, at no greater cost.
use Rattle.std.proofs.Common.{sym, arith, ◌∙◌}
use Rattle.std.proofs.lemmas.Int.{ints, by_lt_z}
use Rattle.std.specs.Prelude.{◌≡◌, ◌↔◌, ℤ, pos, ◌-ℤ◌, ◌*ℤ◌, ◌≤ℤ◌, List, [], ◌∷◌, true, refl}
use Rattle.std.specs.List.{AllByRecursion}
use Rattle.std.specs.Int.Signed.{≤ℤ_refl}
use Rattle.dn_arc_theory.specs.declared.arc.CapArc.{CapArc}
use Rattle.dn_arc_theory.specs.declared.arc.CostArc.{CostArc}
use Rattle.dn_arc_theory.specs.Capacities.{total_cap}
use Rattle.dn_arc_theory.specs.Splits.{AreShares, total, cost_of}
use Rattle.dn_arc_theory.specs.Meanings.{SameTotal, SameCurve}
use Rattle.dn_arc_theory.specs.Canonical.{IsCapArc}
use Rattle.dn_arc_theory.proofs.SplitsLaws.{split_at_most, at_most_split, above}
use Rattle.dn_answers.proofs.AssemblyLaws.{Shares, weight, Carried}

-- the units of an arc's number
abbrev pub units : {Arc : Type 0} → Arc → ℤ → ℤ
units a f = f

-- `max`: an arc carries 0 to CAP, at no cost
abbrev pub cap_low : CapArc → ℤ
cap_low a = pos 0

abbrev pub cap_high : CapArc → ℤ
cap_high a = a.cap

abbrev pub free : CapArc → ℤ → ℤ
free a f = pos 0

abbrev pub CapShares : List CapArc → List ℤ → Type 0
CapShares = Shares cap_low cap_high

cap_least : (arcs : List CapArc) (zs : List ℤ) → CapShares arcs zs → pos 0 ≤ℤ weight units arcs zs
cap_least [] zs h = ≤ℤ_refl (pos 0)
cap_least (a ∷ rest) [] h = ≤ℤ_refl (pos 0)
cap_least (a ∷ rest) (z ∷ zs) h = omega (arith, ints, cap_least rest zs h.2, h.0)

pub cap_most : (arcs : List CapArc) (zs : List ℤ) → CapShares arcs zs → weight units arcs zs ≤ℤ total_cap arcs
cap_most [] zs h = ≤ℤ_refl (pos 0)
cap_most (a ∷ rest) [] h = absurd h
cap_most (a ∷ rest) (z ∷ zs) h = omega (arith, ints, cap_most rest zs h.2, h.1)

no_cost : (arcs : List CapArc) (zs : List ℤ) → weight free arcs zs ≡ pos 0
no_cost [] zs = refl
no_cost (a ∷ rest) [] = refl
no_cost (a ∷ rest) (z ∷ zs) = omega (arith, ints, no_cost rest zs)

pub some_total : (arcs : List CapArc) → AllByRecursion IsCapArc arcs → pos 0 ≤ℤ total_cap arcs
some_total [] h = ≤ℤ_refl (pos 0)
some_total (a ∷ rest) h = omega (arith, ints, some_total rest h.1, h.0.some)

-- shares of the arcs that sum to x
pub record Filled (arcs : List CapArc) (x : ℤ) : Type 0 where
  pub split : List ℤ
  pub shares : CapShares arcs split
  pub sum : weight units arcs split ≡ x

pub filled : (arcs : List CapArc) (x : ℤ) → AllByRecursion IsCapArc arcs → pos 0 ≤ℤ x → x ≤ℤ total_cap arcs
    → Filled arcs x
filled [] x h some most = record { split = []; shares = tt; sum = omega (arith, ints) }
filled (a ∷ rest) x h some most =
    let room = h.0.some in
    let left = some_total rest h.1 in
    by_lt_z a.cap x
    (λ lt.
    let f = filled rest (x -ℤ a.cap) h.1 (omega (arith, ints)) (omega (arith, ints)) in
    record { split = a.cap ∷ f.split; shares = (room, ≤ℤ_refl a.cap, f.shares); sum = omega (arith, ints, f.sum) })
    (λ le.
    let f = filled rest (pos 0) h.1 (≤ℤ_refl (pos 0)) left in
    record { split = x ∷ f.split; shares = (some, le, f.shares); sum = omega (arith, ints, f.sum) })

pub caps_carry : (xs ys : List CapArc) → AllByRecursion IsCapArc ys → SameTotal xs ys → (zs : List ℤ) → CapShares xs zs
    → Carried cap_low cap_high free true xs ys zs
caps_carry xs ys valid s zs h =
    let e = cap_most xs zs h in
    let f = filled ys (weight units xs zs) valid (cap_least xs zs h) (omega (arith, ints, s.is)) in
    let none = no_cost xs zs in
    let g = no_cost ys f.split in
    record { split = f.split; shares = f.shares; same = λ e. sym f.sum; cost_is = omega (arith, ints) }

-- `min`: an arc carries LOW to CAP, at COST
abbrev pub cost_low : CostArc → ℤ
cost_low a = a.low

abbrev pub cost_high : CostArc → ℤ
cost_high a = a.cap

abbrev pub spent : CostArc → ℤ → ℤ
spent a f = a.cost *ℤ f

abbrev pub CostShares : List CostArc → List ℤ → Type 0
CostShares = Shares cost_low cost_high

pub cost_shares : (arcs : List CostArc) (zs : List ℤ) → CostShares arcs zs ↔ AreShares arcs zs
cost_shares [] [] = (λ h. h, λ h. h)
cost_shares [] (z ∷ zs) = (λ h. h, λ h. h)
cost_shares (a ∷ rest) [] = (λ h. h, λ h. h)
cost_shares (a ∷ rest) (z ∷ zs) =
    let i = cost_shares rest zs in (λ h. (h.0, h.1, i.0 h.2), λ h. (h.0, h.1, i.1 h.2))

pub units_total : (arcs : List CostArc) (zs : List ℤ) → AreShares arcs zs → weight units arcs zs ≡ total zs
units_total [] [] h = refl
units_total [] (z ∷ zs) h = absurd h
units_total (a ∷ rest) [] h = absurd h
units_total (a ∷ rest) (z ∷ zs) h = rw (units_total rest zs h.2)

pub spent_cost : (arcs : List CostArc) (zs : List ℤ) → weight spent arcs zs ≡ cost_of arcs zs
spent_cost [] zs = refl
spent_cost (a ∷ rest) [] = refl
spent_cost (a ∷ rest) (z ∷ zs) = rw (spent_cost rest zs)

pub costs_carry : (xs ys : List CostArc) → SameCurve xs ys → (zs : List ℤ) → CostShares xs zs
    → Carried cost_low cost_high spent true xs ys zs
costs_carry xs ys s zs h =
    let shares = (cost_shares xs zs).0 h in
    let there = (above xs ys s).there (total zs) (cost_of xs zs)
    (split_at_most xs zs (total zs) (record { shares = shares; whole = refl })) in
    let w = at_most_split ys (total zs) (cost_of xs zs) there in
    record {
      split = w.split;
      shares = (cost_shares ys w.split).1 w.is.shares;
      same = λ e. units_total xs zs shares ∙ sym w.is.whole ∙ sym (units_total ys w.split w.is.shares);
      cost_is = omega (arith, ints, w.costs, spent_cost xs zs, spent_cost ys w.split);
    }
