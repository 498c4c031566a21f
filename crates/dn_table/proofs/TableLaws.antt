-- How an arc changes a table.
use Rattle.std.proofs.Common.{◌≡◌, ◌↔◌, ℤ, ◌≤ℤ◌, ◌<ℤ◌, List, [], ◌∷◌, ◌++◌, Option, Some, None, false, refl, sym, ap, ◌∙◌, arith}
use Rattle.std.specs.Map.{lookup}
use Rattle.std.proofs.lemmas.Int.{ints}
use Rattle.dn_arc_theory.specs.Kinds.{ArcKind}
use Rattle.dn_arc_theory.specs.State.Equivalences.{IsMeaning}
use Rattle.dn_arc_theory.specs.Pairs.{same_pair}
use Rattle.dn_arc_theory.specs.State.Bundles.{listed_of}
use Rattle.dn_table.specs.State.Tables.{listed_at, Grows}

module _ {B Arc : Type 0} (kind : ArcKind Arc) (lists : B → List Arc) (m n : List ((ℤ × ℤ) × B)) (pair : ℤ × ℤ)
    (arc : Arc) where
  -- the bundle of the pair has taken the arc
  pub grows_there : (b w : B) → lookup (same_pair pair) m ≡ Some b → lookup (same_pair pair) n ≡ Some w
      → ((p : ℤ × ℤ) → same_pair pair p ≡ false → lookup (same_pair p) n ≡ lookup (same_pair p) m)
      → kind.Same (lists w) (lists b ++ arc ∷ []) → Grows kind lists m n pair arc
  grows_there b w e f others same = record {
    here = rw (f, e) same;
    kept = λ s. rw f refl;
    fresh = λ g. cc;
    others = others;
  }

  -- a pair without a bundle gets that of the arc
  pub grows_fresh : (w : B) → lookup (same_pair pair) m ≡ None → lookup (same_pair pair) n ≡ Some w
      → ((p : ℤ × ℤ) → same_pair pair p ≡ false → lookup (same_pair p) n ≡ lookup (same_pair p) m)
      → kind.Same (lists w) (arc ∷ []) → (kind.Same (lists w) [] → ⊥) → Grows kind lists m n pair arc
  grows_fresh w h f others same some = record {
    here = rw (f, h) same;
    kept = λ s. rw f refl;
    fresh = λ g. ((λ no. cc), (λ s. absurd (some (rw f at s))));
    others = others;
  }

-- the arcs of a pair without a bundle do not pass the greatest sum with an arc that does not pass it alone
pub fits_alone : {B Arc : Type 0} (kind : ArcKind Arc) (lists : B → List Arc) (m : List ((ℤ × ℤ) × B)) (pair : ℤ × ℤ)
    (arc : Arc) (most : ℤ) → lookup (same_pair pair) m ≡ None → kind.capacity (arc ∷ []) ≤ℤ most
    → most <ℤ kind.capacity (listed_at lists m pair ++ arc ∷ []) → ⊥
fits_alone kind lists m pair arc most h fits more = omega (arith, ints, rw h at more)

pub sum_alone : {B Arc F : Type 0} (kind : ArcKind Arc) (lists : B → List Arc) (m : List ((ℤ × ℤ) × B))
    (pair : ℤ × ℤ) (arc : Arc) (most : ℤ) → lookup (same_pair pair) m ≡ None → kind.capacity (arc ∷ []) ≤ℤ most
    → (F → ⊥) → F ↔ (most <ℤ kind.capacity (listed_at lists m pair ++ arc ∷ []))
sum_alone kind lists m pair arc most h fits not =
    ((λ e. absurd (not e)), (λ more. absurd (fits_alone kind lists m pair arc most h fits more)))

module _ {B Arc : Type 0} (kind : ArcKind Arc) (lists : B → List Arc) (m : List ((ℤ × ℤ) × B)) (pair : ℤ × ℤ)
    (arc : Arc) (meaning : IsMeaning kind.Same) where
  -- a pair without a bundle gets none if the arc means nothing
  pub grows_none : lookup (same_pair pair) m ≡ None → kind.Same [] (arc ∷ []) → Grows kind lists m m pair arc
  grows_none h alone =
      record {
        here = rw h alone;
        kept = λ s. s;
        fresh = λ g. ((λ no. rw h (meaning.same_refl [])), (λ s. h));
        others = λ p f. refl;
      }

-- the arcs that a table lists for a pair with a bundle
pub listed_there : {B Arc : Type 0} (lists : B → List Arc) (m : List ((ℤ × ℤ) × B)) (pair : ℤ × ℤ) (b : B)
    → lookup (same_pair pair) m ≡ Some b → listed_at lists m pair ≡ lists b
listed_there lists m pair b e = ap (listed_of lists) e

-- a bundle that has not changed is the one that was found
pub found_still : {B : Type 0} (o : Option B) (b w : B) → o ≡ Some b → w ≡ b → o ≡ Some w
found_still o b w e f = e ∙ ap (λ x. Some x) (sym f)

-- the sum of a bundle is too large exactly if that of the table at its pair is
pub sum_listed : {B Arc F : Type 0} (kind : ArcKind Arc) (lists : B → List Arc) (arc : Arc) (most : ℤ)
    (m : List ((ℤ × ℤ) × B)) (now : List ((ℤ × ℤ) × B)) (pair : ℤ × ℤ) (listed : List Arc)
    → m ≡ now → listed_at lists m pair ≡ listed → F ↔ (most <ℤ kind.capacity (listed ++ arc ∷ []))
    → F ↔ (most <ℤ kind.capacity (listed_at lists now pair ++ arc ∷ []))
sum_listed {B} {Arc} {F} kind lists arc most m now pair listed e f h = rw (← e, f) h
