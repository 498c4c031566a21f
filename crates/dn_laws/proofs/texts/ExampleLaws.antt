-- Lemmas on the worked `min` problem on one pair: it is valid, canonical, and the same as its canonical arcs.
use Rattle.std.proofs.Common.{◌≡◌, ℤ, pos, ◌≤ℤ◌, ◌-◌, ◌^◌, List, [], inl, inr, cond, int_cmp, refl, arith, rules, append-nil}
use Rattle.std.proofs.lemmas.Bool.{cases_Bool, cond_both}
use Rattle.std.proofs.lemmas.Int.{ints}
use Rattle.std.specs.List.{AllByRecursion}
use Rattle.dn_arc_theory.specs.declared.arc.CostArc.{CostArc}
use Rattle.dn_arc_theory.specs.declared.arc.Form.{Form}
use Rattle.dn_arc_theory.specs.Canonical.{IsCostArc, AreCanonCosts}
use Rattle.dn_arc_theory.specs.Meanings.{SameCurve}
use Rattle.dn_arc_theory.specs.Kinds.{costs}
use Rattle.dn_laws.specs.State.BundleExamples.{arc, worked_one, worked_two}
use Rattle.dn_arc_theory.proofs.CostKindLaws.{cost_kind}
use Rattle.dn_arc_theory.proofs.CurvesLaws.{curve_meaning}
use Rattle.dn_arc_theory.specs.Pairs.{bundle, same_pair}
use Rattle.dn_instance.specs.Validity.{Fits, IsPlaced, IsValid}
use Rattle.dn_instance.specs.Sameness.{SameGraph}
use Rattle.dn_instance.proofs.MapLaws.{no_keys}
use Rattle.dn_canon.specs.CanonInstances.{AreInOrder, IsCanonInstance}
use Rattle.dn_laws.specs.State.TextExamples.{on_one_pair}
use Rattle.dn_canon.specs.State.ListedArcs.{placed}
use Rattle.dn_canon.proofs.ListedLaws.{bundle_placed, order_placed}

-- the pair of all arcs
abbrev here : ℤ × ℤ
here = (pos 1, pos 2)

-- the arcs of a pair, if all arcs are at one pair
bundle_at : (p : ℤ × ℤ) (arcs : List CostArc) → bundle p (placed here arcs) ≡ cond (same_pair p here) arcs []
bundle_at p arcs =
    rw (append-nil (placed here arcs), append-nil arcs) at (bundle_placed p here arcs [])

-- what holds of these arcs and of no arcs holds of the bundle at each pair
at_each : (P : List CostArc → Type 0) (arcs : List CostArc) → P arcs → P [] → (p : ℤ × ℤ)
    → P (bundle p (placed here arcs))
at_each P arcs all none p = rw (bundle_at p arcs) (cond_both (same_pair p here) arcs [] P (λ e. all) (λ e. none))

in_order : (arcs : List CostArc) → AreInOrder (placed here arcs)
in_order arcs = rw (append-nil (placed here arcs)) at ((order_placed here arcs [] tt tt).1)

-- placed arcs whose CAPs sum within the range make a valid problem
pub valid_at : (arcs : List CostArc) → AllByRecursion (IsPlaced costs (pos 2)) (placed here arcs)
    → costs.capacity arcs ≤ℤ pos (2 ^ 63 - 1) → IsValid (on_one_pair arcs)
valid_at arcs each sum = (
  record {
    some_nodes = omega (arith, ints);
    nodes_fit = refl;
    placed = each;
    capacities = at_each (λ l. costs.capacity l ≤ℤ pos (2 ^ 63 - 1)) arcs sum (omega (arith, ints));
  },
  record { map = no_keys int_cmp; each = tt },
)

pub placed_arc : (a : CostArc) → IsCostArc a → Fits a.low → Fits a.cap → Fits a.cost → IsPlaced costs (pos 2) (here, a)
placed_arc a is low cap cost = record {
  tail = record { some = omega (arith, ints); most = omega (arith, ints) };
  head = record { some = omega (arith, ints); most = omega (arith, ints) };
  is_arc = is;
  numbers = (low, (cap, (cost, tt)));
}

pub canonical_at : (form : Form) (arcs : List CostArc) → AreCanonCosts form arcs
    → IsCanonInstance form (on_one_pair arcs)
canonical_at form arcs c =
    record { in_order = in_order arcs; canonical = at_each (AreCanonCosts form) arcs c (cost_kind.none_canon form) }

-- if the problem is canonical, its arcs are canonical
pub canonical_here : (form : Form) (arcs : List CostArc) → IsCanonInstance form (on_one_pair arcs)
    → AreCanonCosts form arcs
canonical_here form arcs c = rw (bundle_at here arcs) at (c.canonical here)

pub same_at : (xs ys : List CostArc) → SameCurve xs ys
    → SameGraph costs.Same (record { nodes = pos 2; arcs = placed here xs })
    (record { nodes = pos 2; arcs = placed here ys })
same_at xs ys s = record { nodes = refl; bundles = at }
  where
    at : (p : ℤ × ℤ) → SameCurve (bundle p (placed here xs)) (bundle p (placed here ys))
    at p = elim (cases_Bool (same_pair p here)) [
      | inl e ↦ rw (bundle_at p xs, bundle_at p ys, e) s
      | inr e ↦ rw (bundle_at p xs, bundle_at p ys, e) (curve_meaning.same_refl [])
    ]

one_placed : {l u k : ℤ} → pos 0 ≤ℤ l → l ≤ℤ u → Fits l → Fits u → Fits k → IsPlaced costs (pos 2) (here, arc l u k)
one_placed h g a b c = placed_arc _ (record { some = h; room = g }) a b c

pub worked_one_valid : IsValid (on_one_pair worked_one)
worked_one_valid = valid_at worked_one (search (rules, one_placed)) (omega (arith, ints))

pub worked_two_valid : IsValid (on_one_pair worked_two)
worked_two_valid = valid_at worked_two (search (rules, one_placed)) (omega (arith, ints))
