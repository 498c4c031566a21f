-- Graphs without self-loops mean the same exactly if they have the same answers for any choice of ordered pairs.
use Rattle.std.proofs.Common.{inl, inr, ap}
use Rattle.std.proofs.lemmas.Bool.{cases_Bool}
use Rattle.std.proofs.lemmas.Bool.Decides.{Decides-int_eq, not_from_Decides}
use Rattle.std.specs.Prelude.{◌≡◌, ◌≢◌, ◌↔◌, ◌⊎◌, ℤ, List, [], ◌∷◌, map, Bool, cond, refl}
use Rattle.std.specs.List.{AllByRecursion}
use Rattle.std.specs.Ordering.{int_eq}
use Rattle.dn_arc_theory.specs.declared.arc.LengthArc.{LengthArc}
use Rattle.dn_arc_theory.specs.declared.arc.CapArc.{CapArc}
use Rattle.dn_arc_theory.specs.declared.arc.CostArc.{CostArc}
use Rattle.dn_arc_theory.specs.State.Equivalences.{IsMeaning}
use Rattle.dn_arc_theory.specs.Canonical.{IsCapArc}
use Rattle.dn_arc_theory.specs.Kinds.{ArcKind, lengths, capacities, costs}
use Rattle.dn_arc_theory.specs.Pairs.{same_pair, bundle}
use Rattle.dn_arc_theory.proofs.PairLaws.{pair_is}
use Rattle.dn_arc_theory.proofs.LengthsLaws.{length_meaning}
use Rattle.dn_arc_theory.proofs.TotalsLaws.{total_meaning}
use Rattle.dn_arc_theory.proofs.CurvesLaws.{curve_meaning}
use Rattle.dn_instance.specs.Instances.{Graph}
use Rattle.dn_instance.specs.Validity.{IsNode, IsPlaced, IsValidGraph}
use Rattle.dn_instance.specs.Sameness.{SameGraph}
use Rattle.dn_answers.specs.Walks.{IsDistance}
use Rattle.dn_answers.specs.MaxFlows.{IsGreatestValue}
use Rattle.dn_answers.specs.MinCostFlows.{IsLeastCost}
use Rattle.dn_answers.specs.Parallel.{parallel, pair_alone, supplies_for}
use Rattle.dn_answers.specs.Choices.{chosen_arcs, only, HasNoLoop}
use Rattle.dn_answers.proofs.WalkLaws.{same_distances}
use Rattle.dn_answers.proofs.FlowLaws.{caps_at, caps_of, same_greatest, same_least}
use Rattle.dn_answers.proofs.ParallelLaws.{lengths_apart, capacities_apart, costs_apart}

module _ {Arc : Type 0} where
  -- the bundle of a chosen pair is unchanged, and that of another pair is empty
  bundle_chosen : (chosen : ℤ × ℤ → Bool) (p : ℤ × ℤ) (arcs : List ((ℤ × ℤ) × Arc))
      → bundle p (chosen_arcs chosen arcs) ≡ cond (chosen p) (bundle p arcs) []
  bundle_chosen chosen p [] = elim (cases_Bool (chosen p)) [ inl t ↦ rw t | inr t ↦ rw t ]
  bundle_chosen chosen p (a ∷ arcs) =
      let i = bundle_chosen chosen p arcs in
      elim (cases_Bool (same_pair p a.0)) [
        | inl t ↦
            let e : chosen a.0 ≡ chosen p = rw (← pair_is p a.0 t) in
            elim (cases_Bool (chosen p)) [ inl c ↦ rw (e, c, t, rw c at i) | inr c ↦ rw (e, c, rw c at i) ]
        | inr t ↦ elim (cases_Bool (chosen a.0)) [ inl c ↦ rw (c, t, i) | inr c ↦ rw (c, t, i) ]
      ]

  -- the arcs of one pair, as parallel arcs
  one_chosen : (p : ℤ × ℤ) (arcs : List ((ℤ × ℤ) × Arc))
      → chosen_arcs (same_pair p) arcs ≡ map (λ a. (p, a)) (bundle p arcs)
  one_chosen p [] = refl
  one_chosen p (a ∷ arcs) = elim (cases_Bool (same_pair p a.0)) [
    | inl t ↦ let e : a ≡ (p, a.1) = rw (pair_is p a.0 t) in rw (t, e, one_chosen p arcs)
    | inr t ↦ rw (t, one_chosen p arcs)
  ]

  -- what tells the graphs with the arcs of one pair apart, tells their parallel arcs apart
  pair_only : (P : Graph Arc → Type 0) (G H : Graph Arc) → G.nodes ≡ H.nodes → (p : ℤ × ℤ)
      → P (only (same_pair p) G) ↔ P (only (same_pair p) H)
      → P (pair_alone p G) ↔ P (parallel G.nodes p (bundle p H.arcs))
  pair_only P G H n p h = rw (one_chosen p G.arcs, one_chosen p H.arcs, ← n) at h

module _ {Arc : Type 0} (kind : ArcKind Arc) (meaning : IsMeaning kind.Same) where
  -- graphs that mean the same still do for any choice of pairs
  choice_same : (G H : Graph Arc) → SameGraph kind.Same G H → (chosen : ℤ × ℤ → Bool)
      → SameGraph kind.Same (only chosen G) (only chosen H)
  choice_same G H s chosen = record {
    nodes = s.nodes;
    bundles = λ p.
        rw (bundle_chosen chosen p G.arcs, bundle_chosen chosen p H.arcs)
        (elim (cases_Bool (chosen p)) [ inl t ↦ rw t (s.bundles p) | inr t ↦ rw t (meaning.same_refl []) ]);
  }

  -- graphs without self-loops mean the same if the arcs of different nodes do
  no_loop_same : (G H : Graph Arc) → G.nodes ≡ H.nodes → HasNoLoop G → HasNoLoop H
      → ((p : ℤ × ℤ) → p.0 ≢ p.1 → kind.Same (bundle p G.arcs) (bundle p H.arcs)) → SameGraph kind.Same G H
  no_loop_same G H n g h f = record {
    nodes = n;
    bundles = λ p. elim (cases_Bool (int_eq p.0 p.1)) [
      | inl e ↦
          let q : (p.0, p.0) ≡ p = ap (λ (z : ℤ). (p.0, z)) ((Decides-int_eq p.0 p.1).0 e) in
          rw (← q, g p.0, h p.0) (meaning.same_refl [])
      | inr e ↦ f p (not_from_Decides (int_eq p.0 p.1) (Decides-int_eq p.0 p.1) e)
    ];
  }

-- the tail of a pair with arcs is a node
pub tail_of : (n : ℤ) (p : ℤ × ℤ) (arcs : List ((ℤ × ℤ) × LengthArc)) → AllByRecursion (IsPlaced lengths n) arcs
    → (bundle p arcs ≡ []) ⊎ IsNode n p.0
tail_of n p [] h = inl refl
tail_of n p (a ∷ arcs) h = elim (cases_Bool (same_pair p a.0)) [
  | inl t ↦ inr (rw (pair_is p a.0 t) h.0.tail)
  | inr t ↦ rw t (tail_of n p arcs h.1)
]

pub lengths_exactly : (G H : Graph LengthArc) → IsValidGraph lengths G → IsValidGraph lengths H → G.nodes ≡ H.nodes
    → HasNoLoop G → HasNoLoop H
    → SameGraph lengths.Same G H ↔ ((chosen : ℤ × ℤ → Bool) (u v d : ℤ)
    → IsDistance (only chosen G) u v d ↔ IsDistance (only chosen H) u v d)
lengths_exactly G H x y n g h = (
  λ s chosen. same_distances (only chosen G) (only chosen H) (choice_same lengths length_meaning G H s chosen),
  λ f. no_loop_same lengths length_meaning G H n g h (λ p differ.
      (let apart = λ (node : IsNode G.nodes p.0).
      (lengths_apart G.nodes p differ (bundle p G.arcs) (bundle p H.arcs) node).1
      (λ d. pair_only (λ K. IsDistance K p.0 p.1 d) G H n p (f (same_pair p) p.0 p.1 d)) in
      elim (tail_of G.nodes p G.arcs x.placed) [
        | inr a ↦ apart a
        | inl a ↦ elim (tail_of H.nodes p H.arcs y.placed) [
          | inr b ↦ apart (rw n b)
          | inl b ↦ rw (a, b) (length_meaning.same_refl [])
        ]
      ])),
)

-- chosen arcs have CAPs of at least 0 if all do
caps_chosen : (chosen : ℤ × ℤ → Bool) (arcs : List ((ℤ × ℤ) × CapArc)) → AllByRecursion (λ a. IsCapArc a.1) arcs
    → AllByRecursion (λ a. IsCapArc a.1) (chosen_arcs chosen arcs)
caps_chosen chosen [] h = tt
caps_chosen chosen (a ∷ arcs) h = elim (cases_Bool (chosen a.0)) [
  | inl t ↦ rw t (h.0, caps_chosen chosen arcs h.1)
  | inr t ↦ rw t (caps_chosen chosen arcs h.1)
]

pub capacities_exactly : (G H : Graph CapArc) → IsValidGraph capacities G → IsValidGraph capacities H
    → G.nodes ≡ H.nodes → HasNoLoop G → HasNoLoop H
    → SameGraph capacities.Same G H ↔ ((chosen : ℤ × ℤ → Bool) (source sink x : ℤ)
    → IsGreatestValue source sink (only chosen G) x ↔ IsGreatestValue source sink (only chosen H) x)
capacities_exactly G H x y n g h =
    let caps = caps_of G.nodes G.arcs x.placed in
    let others = caps_of H.nodes H.arcs y.placed in (
      λ s chosen source sink.
          same_greatest source sink (only chosen G) (only chosen H)
          (choice_same capacities total_meaning G H s chosen) (caps_chosen chosen G.arcs caps)
          (caps_chosen chosen H.arcs others),
      λ f. no_loop_same capacities total_meaning G H n g h (λ p differ.
          (capacities_apart G.nodes p differ (bundle p G.arcs) (bundle p H.arcs) (caps_at p G.arcs caps)
          (caps_at p H.arcs others)).1
          (λ z. pair_only (λ K. IsGreatestValue p.0 p.1 K z) G H n p (f (same_pair p) p.0 p.1 z))),
    )

pub costs_exactly : (G H : Graph CostArc) → G.nodes ≡ H.nodes → HasNoLoop G → HasNoLoop H
    → SameGraph costs.Same G H ↔ ((chosen : ℤ × ℤ → Bool) (supplies : List (ℤ × ℤ)) (k : ℤ)
    → IsLeastCost supplies (only chosen G) k ↔ IsLeastCost supplies (only chosen H) k)
costs_exactly G H n g h = (
  λ s chosen supplies.
      same_least supplies (only chosen G) (only chosen H) (choice_same costs curve_meaning G H s chosen),
  λ f. no_loop_same costs curve_meaning G H n g h (λ p differ.
      (costs_apart G.nodes p differ (bundle p G.arcs) (bundle p H.arcs)).1 (λ x k.
      pair_only (λ K. IsLeastCost (supplies_for p x) K k) G H n p (f (same_pair p) (supplies_for p x) k))),
)
