-- If two graphs mean the same, each walk of the one has a walk of the other along the same pairs that is no longer, and
-- the distances are the same.
use Rattle.std.proofs.Common.{inl, inr, sym, arith}
use Rattle.std.proofs.lemmas.Bool.{cases_Bool}
use Rattle.std.proofs.lemmas.Int.{ints}
use Rattle.std.specs.Prelude.{◌≡◌, ℤ, ◌≤ℤ◌, List, [], ◌∷◌, map, refl, ◌↔◌}
use Rattle.std.specs.List.{AllByRecursion}
use Rattle.dn_arc_theory.specs.declared.arc.LengthArc.{LengthArc}
use Rattle.dn_arc_theory.specs.Lengths.{HasLength}
use Rattle.dn_arc_theory.specs.Meanings.{SameLength}
use Rattle.dn_arc_theory.specs.Pairs.{same_pair, bundle}
use Rattle.dn_arc_theory.proofs.LengthsLaws.{least_of, length_meaning}
use Rattle.dn_arc_theory.proofs.PairLaws.{pair_is, pair_self}
use Rattle.dn_answers.specs.Walks.{IsAmong, Leads, walk_length, IsWalk, HasMatchingWalk, HasWalkWithin, IsDistance}
use Rattle.dn_arc_theory.specs.Kinds.{lengths}
use Rattle.dn_instance.specs.Instances.{Graph}
use Rattle.dn_instance.specs.Sameness.{SameGraph}
use Rattle.dn_instance.proofs.SameLaws.{graph_sym}

-- what holds of each arc holds of one that is among them
pub at_among : (P : (ℤ × ℤ) × LengthArc → Type 0) (arcs : List ((ℤ × ℤ) × LengthArc)) → AllByRecursion P arcs
    → (a : (ℤ × ℤ) × LengthArc) → IsAmong a arcs → P a
at_among P [] h a m = absurd m
at_among P (b ∷ arcs) h a (inl e) = rw e h.0
at_among P (b ∷ arcs) h a (inr m) = at_among P arcs h.1 a m

-- an arc of the list has its length in the bundle of its pair
pub has_of : (a : (ℤ × ℤ) × LengthArc) (arcs : List ((ℤ × ℤ) × LengthArc)) → IsAmong a arcs
    → HasLength (bundle a.0 arcs) a.1.length
has_of a [] h = absurd h
has_of a (b ∷ rest) (inl e) = rw (e, pair_self b.0) (inl refl)
has_of a (b ∷ rest) (inr h) =
    elim (cases_Bool (same_pair a.0 b.0)) [ inl t ↦ rw t (inr (has_of a rest h)) | inr t ↦ rw t (has_of a rest h) ]

-- an arc of the pair p among the arcs, of this length
pub record Found (p : ℤ × ℤ) (w : ℤ) (arcs : List ((ℤ × ℤ) × LengthArc)) : Type 0 where
  pub arc : (ℤ × ℤ) × LengthArc
  pub among : IsAmong arc arcs
  pub pair : arc.0 ≡ p
  pub length : arc.1.length ≡ w

later : (p : ℤ × ℤ) (w : ℤ) (b : (ℤ × ℤ) × LengthArc) (rest : List ((ℤ × ℤ) × LengthArc)) → Found p w rest
    → Found p w (b ∷ rest)
later p w b rest f = record { arc = f.arc; among = inr f.among; pair = f.pair; length = f.length }

-- a length in the bundle of p is that of an arc of p
pub found_in : (p : ℤ × ℤ) (w : ℤ) (arcs : List ((ℤ × ℤ) × LengthArc)) → HasLength (bundle p arcs) w → Found p w arcs
found_in p w [] h = absurd h
found_in p w (b ∷ rest) h = elim (cases_Bool (same_pair p b.0)) [
  | inl t ↦ elim (rw t at h) [
    | inl e ↦ record { arc = b; among = inl refl; pair = sym (pair_is p b.0 t); length = e }
    | inr g ↦ later p w b rest (found_in p w rest g)
  ]
  | inr t ↦ later p w b rest (found_in p w rest (rw t at h))
]

pub no_shorter : (xs : List LengthArc) (v w : ℤ) → AllByRecursion (λ (a : LengthArc). w ≤ℤ a.length) xs → HasLength xs v
    → w ≤ℤ v
no_shorter [] v w n h = absurd h
no_shorter (a ∷ rest) v w n (inl e) = rw (← e) n.0
no_shorter (a ∷ rest) v w n (inr h) = no_shorter rest v w n.1 h

-- a length in xs has one in ys that is no greater
pub record Bounded (ys : List LengthArc) (w : ℤ) : Type 0 where
  pub other : ℤ
  pub has : HasLength ys other
  pub within : other ≤ℤ w

bounded : (xs ys : List LengthArc) → SameLength xs ys → (w : ℤ) → HasLength xs w → Bounded ys w
bounded xs ys s w h = elim (least_of xs) [
  | inl e ↦ absurd (rw e at h)
  | inr p ↦ record { other = p.0; has = (s.there p.0 p.1).has; within = no_shorter xs w p.0 p.1.least h }
]

-- each pair's arcs mean the same in both lists
pub record Alike (xs ys : List ((ℤ × ℤ) × LengthArc)) : Type 0 where
  pub at : (p : ℤ × ℤ) → SameLength (bundle p xs) (bundle p ys)

-- a walk of ys from u to v along the same pairs that is no longer
pub record Replaced (u v : ℤ) (walk ys : List ((ℤ × ℤ) × LengthArc)) : Type 0 where
  pub other : List ((ℤ × ℤ) × LengthArc)
  pub among : AllByRecursion (λ a. IsAmong a ys) other
  pub leads : Leads u other v
  pub pairs : map (λ (a : (ℤ × ℤ) × LengthArc). a.0) other ≡ map (λ (a : (ℤ × ℤ) × LengthArc). a.0) walk
  pub within : walk_length other ≤ℤ walk_length walk

pub replaced : (xs ys : List ((ℤ × ℤ) × LengthArc)) → Alike xs ys → (u v : ℤ) (walk : List ((ℤ × ℤ) × LengthArc))
    → AllByRecursion (λ a. IsAmong a xs) walk → Leads u walk v → Replaced u v walk ys
replaced xs ys s u v [] h leads =
    record { other = []; among = tt; leads = leads; pairs = refl; within = omega (arith, ints) }
replaced xs ys s u v (a ∷ walk) h leads =
    let b = bounded (bundle a.0 xs) (bundle a.0 ys) (s.at a.0) a.1.length (has_of a xs h.0) in
    let f = found_in a.0 b.other ys b.has in
    let r = replaced xs ys s a.0.1 v walk h.1 leads.1 in
    record {
      other = f.arc ∷ r.other;
      among = (f.among, r.among);
      leads = rw f.pair (leads.0, r.leads);
      pairs = rw (f.pair, r.pairs);
      within = omega (arith, ints, f.length, b.within, r.within);
    }

-- each walk has one along the same pairs in the other graph that is no longer
pub alike_walk : (G H : Graph LengthArc) → SameGraph lengths.Same G H → (u v : ℤ) (walk : List ((ℤ × ℤ) × LengthArc))
    → IsWalk G u v walk → HasMatchingWalk H u v walk
alike_walk G H s u v walk w =
    let r = replaced G.arcs H.arcs (record { at = s.bundles }) u v walk w.arcs w.leads in
    record {
      other = r.other;
      is = record { start = rw (← s.nodes) w.start; arcs = r.among; leads = r.leads };
      pairs = r.pairs;
      length = r.within;
    }

-- each walk of G from u to v has one of H that is no longer
pub record Covers (u v : ℤ) (G H : Graph LengthArc) : Type 0 where
  pub at : (walk : List ((ℤ × ℤ) × LengthArc)) → IsWalk G u v walk → HasWalkWithin H u v (walk_length walk)

bound_there : (u v : ℤ) (G H : Graph LengthArc) → Covers u v G H → (d : ℤ) → HasWalkWithin G u v d
    → HasWalkWithin H u v d
bound_there u v G H c d w =
    let a = c.at w.walk w.is in record { walk = a.walk; is = a.is; within = omega (arith, ints, a.within, w.within) }

distance_there : (u v : ℤ) (G H : Graph LengthArc) → Covers u v G H → Covers u v H G → (d : ℤ) → IsDistance G u v d
    → IsDistance H u v d
distance_there u v G H there back d m =
    let w = there.at m.walk m.is in
    record {
      walk = w.walk;
      is = w.is;
      length = omega (arith, ints, m.length, w.within, least w.walk w.is);
      least = least;
    }
  where
    least : (other : List ((ℤ × ℤ) × LengthArc)) → IsWalk H u v other → d ≤ℤ walk_length other
    least other is = let b = back.at other is in omega (arith, ints, m.least b.walk b.is, b.within)

module _ (u v : ℤ) (G H : Graph LengthArc) (there : Covers u v G H) (back : Covers u v H G) (d : ℤ) where
  pub covered_bounds : HasWalkWithin G u v d ↔ HasWalkWithin H u v d
  covered_bounds = (bound_there u v G H there d, bound_there u v H G back d)

  pub covered_distances : IsDistance G u v d ↔ IsDistance H u v d
  covered_distances = (distance_there u v G H there back d, distance_there u v H G back there d)

same_covers : (G H : Graph LengthArc) → SameGraph lengths.Same G H → (u v : ℤ) → Covers u v G H
same_covers G H s u v = record {
  at = λ walk w. (let a = alike_walk G H s u v walk w in record { walk = a.other; is = a.is; within = a.length });
}

module _ (G H : Graph LengthArc) (s : SameGraph lengths.Same G H) (u v : ℤ) where
  back : Covers u v H G
  back = same_covers H G (graph_sym lengths length_meaning G H s) u v

  pub same_bounds : (d : ℤ) → HasWalkWithin G u v d ↔ HasWalkWithin H u v d
  same_bounds = covered_bounds u v G H (same_covers G H s u v) back

  pub same_distances : (d : ℤ) → IsDistance G u v d ↔ IsDistance H u v d
  same_distances = covered_distances u v G H (same_covers G H s u v) back
