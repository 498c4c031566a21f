-- Lemmas that each valid instance has a canonical instance in each form.
use Rattle.std.proofs.Common.{◌≡◌, ◌-◌, ◌^◌, inl, inr, ℕ, ℤ, pos, negsuc, ◌+ℤ◌, ◌-ℤ◌, ◌*ℤ◌, ◌≤ℤ◌, List, [], ◌∷◌, ◌++◌, refl, arith, w64, FitsSigned}
use Rattle.std.proofs.lemmas.Bool.Decides.{nat_tests}
use Rattle.std.proofs.lemmas.Int.{ints, by_lt_z}
use Rattle.std.specs.List.{AllByRecursion}
use Rattle.std.specs.Map.{lookup}
use Rattle.dn_arc_theory.specs.declared.arc.CostArc.{CostArc}
use Rattle.dn_arc_theory.specs.declared.arc.Form.{Form}
use Rattle.dn_arc_theory.specs.declared.arc.Form.TheVariants.{One, Two}
use Rattle.dn_arc_theory.specs.declared.arc.LengthArc.{LengthArc}
use Rattle.dn_arc_theory.specs.Canonical.{IsCostArc}
use Rattle.dn_arc_theory.specs.Capacities.{total_cap}
use Rattle.dn_arc_theory.specs.Kinds.{ArcKind, capacities, costs, lengths}
use Rattle.dn_arc_theory.specs.Lengths.{HasLength, LeastLength}
use Rattle.dn_arc_theory.specs.Meanings.{SameCurve, SameLength}
use Rattle.dn_arc_theory.specs.Pairs.{bundle, same_pair}
use Rattle.dn_arc_theory.specs.State.Bundles.{IsKind, NumbersFit, listed_of}
use Rattle.dn_arc_theory.specs.State.CanonArcs.{AreCanonArcsOf}
use Rattle.dn_arc_theory.specs.State.CurveListed.{IsSound, listed}
use Rattle.dn_arc_theory.specs.State.SingleArcs.{cap_listed, length_listed}
use Rattle.dn_arc_theory.specs.State.Steps.{add_step}
use Rattle.dn_arc_theory.proofs.CostKindLaws.{cost_kind}
use Rattle.dn_arc_theory.proofs.CurvesLaws.{curve_meaning}
use Rattle.dn_arc_theory.proofs.LengthKindLaws.{length_canonical, length_fit, length_kind}
use Rattle.dn_arc_theory.proofs.LengthsLaws.{least_of, least_unique, lone}
use Rattle.dn_arc_theory.proofs.MeansLaws.{fits_some}
use Rattle.dn_arc_theory.proofs.OrdersLaws.{at_end}
use Rattle.dn_arc_theory.proofs.SoundLaws.{caps_some, sound_canonical, sound_fit, sound_same}
use Rattle.dn_arc_theory.proofs.TotalKindLaws.{total_canonical, total_fit, total_kind, total_some}
use Rattle.dn_bundle.proofs.GrowLaws.{grown_same, grown_sound}
use Rattle.dn_instance.specs.Instances.{Graph, Instance, MinCostFlow, MaxFlow, ShortestPaths, Sources, Queries, Coordinates}
use Rattle.dn_instance.specs.Validity.{Fits, IsPlaced, IsValid, IsValidGraph}
use Rattle.dn_canon.specs.CanonInstances.{IsCanonInstanceOf}
use Rattle.dn_canon.specs.CanonTexts.{IsCanonOf}
use Rattle.dn_canon.specs.Prints.{print}
use Rattle.dn_canon.specs.State.CanonGraphs.{IsCanonGraphOf}
use Rattle.dn_canon.specs.State.ListedArcs.{listed_graph}
use Rattle.dn_canon.proofs.ListedLaws.{listed_canon, max_canon, min_canon}
use Rattle.dn_canon.proofs.OrderLaws.{all_at_pair}
use Rattle.dn_laws.proofs.texts.KeyLaws.{pair_found, pairs_of, pairs_ascending}

signed_of : (n : ℤ) → Fits n → FitsSigned w64 n
signed_of (pos n) f = record { sfits = grind (arith, nat_tests) }
signed_of (negsuc n) f = record { sfits = grind (arith, nat_tests) }

all_signed : (ns : List ℤ) → AllByRecursion Fits ns → AllByRecursion (FitsSigned w64) ns
all_signed [] h = tt
all_signed (n ∷ ns) h = (signed_of n h.0, all_signed ns h.1)

-- in each form, canonical arcs whose numbers fit 64 bits and that mean the same as these arcs
pub record HasCanon {Arc : Type 0} (kind : ArcKind Arc) (xs : List Arc) : Type 0 where
  pub arcs : Form → List Arc
  pub canonical : (form : Form) → kind.IsCanon form (arcs form)
  pub fit : (form : Form) → NumbersFit kind (arcs form)
  pub same : (form : Form) → kind.Same (arcs form) xs

-- the same arcs in both forms
alike : {Arc : Type 0} (kind : ArcKind Arc) {xs : List Arc} (ys : List Arc) → ((form : Form) → kind.IsCanon form ys)
    → NumbersFit kind ys → kind.Same ys xs → HasCanon kind xs
alike kind ys canonical fit same =
    record { arcs = λ form. ys; canonical = canonical; fit = λ form. fit; same = λ form. same }

-- arcs of one pair of a valid graph have canonical arcs
abbrev pub EachHasCanon : {Arc : Type 0} → ArcKind Arc → Type 0
EachHasCanon kind =
    (xs : List _) → AllByRecursion kind.IsArc xs → NumbersFit kind xs → kind.capacity xs ≤ℤ pos (2 ^ 63 - 1)
    → HasCanon kind xs

-- `sp`: one arc of the least length
has_fit : (xs : List LengthArc) (w : ℤ) → NumbersFit lengths xs → HasLength xs w → FitsSigned w64 w
has_fit [] w f h = absurd h
has_fit (a ∷ rest) w f (inl e) = rw (← e) f.0.0
has_fit (a ∷ rest) w f (inr h) = has_fit rest w f.1 h

same_least : (xs : List LengthArc) (w : ℤ) → LeastLength xs w → SameLength (length_listed w) xs
same_least xs w h = record {
  there = λ v g. rw (least_unique (length_listed w) v w g (lone (record { length = w }))) h;
  back = λ v g. rw (least_unique xs v w g h) (lone (record { length = w }));
}

has_lengths : EachHasCanon lengths
has_lengths xs is fit most = elim (least_of xs) [
  | inl e ↦ alike lengths [] (λ form. tt) tt (rw e (length_kind.meaning.same_refl []))
  | inr p ↦ alike lengths (length_listed p.0) (λ form. length_canonical p.0)
      (length_fit p.0 (has_fit xs p.0 fit p.1.has)) (same_least xs p.0 p.1)
]

-- `max`: one arc of the total capacity, or none
has_capacities : EachHasCanon capacities
has_capacities xs is fit most =
    let z = total_cap xs in
    by_lt_z (pos 0) z
    (λ some. alike capacities (cap_listed z) (λ form. total_canonical z some) (total_fit z some most)
    (record { is = omega (arith, ints) }))
    (λ none. alike capacities [] (λ form. tt) tt (record { is = omega (arith, ints, total_some xs is) }))

-- `min`: the arcs of a sound curve
record HasCurve (xs : List CostArc) : Type 0 where
  units : ℤ
  cost : ℤ
  steps : List (ℤ × ℤ)
  sound : IsSound units cost (costs.capacity xs) steps
  same : SameCurve (listed One units cost steps) xs

-- one more arc
module _ (a : CostArc) (rest : List CostArc) (is : IsCostArc a) (fk : FitsSigned w64 a.cost)
    (ft : FitsSigned w64 (costs.capacity (a ∷ rest))) (c : HasCurve rest) where
  abbrev units : ℤ
  units = c.units +ℤ a.low

  abbrev cost : ℤ
  cost = c.cost +ℤ (a.low *ℤ a.cost)

  abbrev steps : List (ℤ × ℤ)
  steps = add_step c.steps (a.cost, a.cap -ℤ a.low)

  total : costs.capacity (a ∷ rest) ≡ costs.capacity rest +ℤ a.cap
  total = omega (arith, ints)

  grown : SameCurve (listed One units cost steps) (listed One c.units c.cost c.steps ++ a ∷ [])
  grown =
      grown_same c.units c.cost (costs.capacity rest) c.steps a (costs.capacity (a ∷ rest)) c.sound is total ft fk units
      cost (costs.capacity (a ∷ rest)) steps refl refl refl refl

  curve_push : HasCurve (a ∷ rest)
  curve_push = record {
    units = units;
    cost = cost;
    steps = steps;
    sound =
        grown_sound c.units c.cost (costs.capacity rest) c.steps a (costs.capacity (a ∷ rest)) c.sound is total ft fk
        units cost (costs.capacity (a ∷ rest)) steps refl refl refl refl;
    same =
        curve_meaning.same_trans (listed One units cost steps) (listed One c.units c.cost c.steps ++ a ∷ []) (a ∷ rest)
        grown
        (curve_meaning.same_trans _ (a ∷ listed One c.units c.cost c.steps) _
        (at_end SameCurve curve_meaning (listed One c.units c.cost c.steps) a)
        (curve_meaning.same_more a (listed One c.units c.cost c.steps) rest c.same));
  }

curve_of : (xs : List CostArc) → AllByRecursion IsCostArc xs → NumbersFit costs xs
    → costs.capacity xs ≤ℤ pos (2 ^ 63 - 1) → HasCurve xs
curve_of [] is fit most = record {
  units = pos 0;
  cost = pos 0;
  steps = [];
  sound = record {
    some = omega (arith, ints);
    mean = record { least = omega (arith, ints); greatest = omega (arith, ints) };
    whole = refl;
    most = most;
    ascending = tt;
    fit = tt;
  };
  same = curve_meaning.same_refl [];
}
curve_of (a ∷ rest) is fit most =
    curve_push a rest is.0 fit.0.1.1.0 (fits_some (costs.capacity (a ∷ rest)) (caps_some (a ∷ rest) is) most)
    (curve_of rest is.1 fit.1 (omega (arith, ints, caps_some rest is.1)))

has_costs : EachHasCanon costs
has_costs xs is fit most =
    let c = curve_of xs is fit most in
    record {
      arcs = λ form. listed form c.units c.cost c.steps;
      canonical = sound_canonical c.units c.cost (costs.capacity xs) c.steps c.sound;
      fit = sound_fit c.units c.cost (costs.capacity xs) c.steps c.sound;
      same = in_form xs c;
    }
  where
    in_form : (xs : List CostArc) (c : HasCurve xs) (form : Form) → SameCurve (listed form c.units c.cost c.steps) xs
    in_form xs c One = c.same
    in_form xs c Two =
        curve_meaning.same_trans (listed Two c.units c.cost c.steps) (listed One c.units c.cost c.steps) xs
        (sound_same c.units c.cost (costs.capacity xs) c.steps c.sound) c.same

-- a valid graph has a canonical graph
module _ {Arc : Type 0} {kind : ArcKind Arc} (laws : IsKind kind) (each : EachHasCanon kind) (form : Form)
    (G : Graph Arc) (v : IsValidGraph kind G) where
  at : (q : ℤ × ℤ) → HasCanon kind (bundle q G.arcs)
  at q =
      each (bundle q G.arcs) (all_at_pair (IsPlaced kind G.nodes) kind.IsArc (λ a p. p.is_arc) q G.arcs v.placed)
      (all_at_pair (IsPlaced kind G.nodes) (λ x. AllByRecursion (FitsSigned w64) (kind.numbers x))
      (λ a p. all_signed _ p.numbers) q G.arcs v.placed)
      (v.capacities q)

  lists : Form → ℤ × ℤ → List Arc
  lists f q = (at q).arcs f

  stands : (p : ℤ × ℤ)
      → AreCanonArcsOf kind (listed_of (lists One) (lookup (same_pair p) (pairs_of G.arcs))) (bundle p G.arcs)
  unfolding lists at
  stands p = elim (pair_found p G.arcs) [
    | inl e ↦ rw e (record { canonical = (at p).canonical One; same = (at p).same One })
    | inr n ↦ rw (n.0, n.1) (record { canonical = laws.none_canon One; same = laws.meaning.same_refl [] })
  ]

  pub canon_graph : (H : Graph Arc) × IsCanonGraphOf kind form H G
  unfolding lists at
  canon_graph = (
    listed_graph (lists form) G.nodes (pairs_of G.arcs),
    listed_canon laws lists (λ f q. (at q).canonical f)
        (λ q. laws.meaning.same_trans _ _ _ ((at q).same Two) (laws.meaning.same_sym _ _ ((at q).same One)))
        (λ f q. (at q).fit f) form G.nodes (pairs_of G.arcs) G refl (pairs_ascending G.arcs) stands v,
  )

-- a valid instance has a canonical instance
pub canon_exists : (form : Form) (I : Instance) → IsValid I → (J : Instance) × IsCanonInstanceOf form J I
canon_exists form (MinCostFlow supplies G) v =
    let (H, c) = canon_graph cost_kind has_costs form G v.0 in
    (MinCostFlow supplies H, min_canon form supplies G H c (rw (← c.same.nodes) v.1))
canon_exists form (MaxFlow source sink G) v =
    let (H, c) = canon_graph total_kind has_capacities form G v.0 in
    (MaxFlow source sink H, max_canon form source sink G H c (rw (← c.same.nodes) v.1))
canon_exists form (ShortestPaths G) v =
    let (H, c) = canon_graph length_kind has_lengths form G v in
    (ShortestPaths H, record { valid = c.valid; canonical = c.canonical; same = c.same })
canon_exists form (Sources ids) v = (Sources ids, record { valid = v; canonical = tt; same = refl })
canon_exists form (Queries pairs) v = (Queries pairs, record { valid = v; canonical = tt; same = refl })
canon_exists form (Coordinates points) v = (Coordinates points, record { valid = v; canonical = tt; same = refl })

-- a valid instance has a canonical text
pub text_exists : (form : Form) (I : Instance) → IsValid I → (t : List ℕ) × IsCanonOf form t I
text_exists form I v =
    let (J, c) = canon_exists form I v in (print J, (J, record { canon = c; text_is = refl }))
