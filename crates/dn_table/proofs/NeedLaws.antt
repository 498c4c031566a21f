-- An arc for which a table needs memory is one for which the graph does.
use Rattle.std.proofs.Common.{◌≡◌, ℕ, zero, suc, ℤ, List, [], ◌∷◌, ◌++◌, None, refl, arith, inl, inr}
use Rattle.std.specs.List.{AllByRecursion}
use Rattle.std.specs.Map.{lookup}
use Rattle.dn_arc_theory.specs.State.Sizes.{ArcSizes}
use Rattle.dn_arc_theory.specs.Kinds.{ArcKind}
use Rattle.dn_arc_theory.specs.State.CanonArcs.{NeedsMore}
use Rattle.dn_arc_theory.specs.declared.arc.Form.TheVariants.{One}
use Rattle.dn_arc_theory.specs.State.Bundles.{AreSizes, IsKind}
use Rattle.dn_arc_theory.specs.Pairs.{bundle, same_pair}
use Rattle.dn_arc_theory.proofs.OrdersLaws.{same_push}
use Rattle.dn_bundle_trait.proofs.BundleLaws.{all_end}
use Rattle.dn_table.specs.State.Tables.{listed_at, TableLists, AreArcs, GraphNeedsMore}
use Rattle.dn_table.proofs.EntryLaws.{bundle_arcs, graph_grows}

module _ {Arc : Type 0} (kind : ArcKind Arc) (sizes : ArcSizes Arc) (laws : IsKind kind)
    (sized : AreSizes kind sizes) where
  -- which arc needs memory depends only on what the arcs before it mean
  needs_same : (xs ys : List Arc) (a : Arc) → AllByRecursion kind.IsArc xs → AllByRecursion kind.IsArc ys
      → kind.IsArc a → kind.Same xs ys → NeedsMore sizes xs a → NeedsMore sizes ys a
  needs_same xs ys a h g is s (inl more) =
      let e = sized.same_entries xs ys h g s in
      let f =
      sized.same_entries (xs ++ a ∷ []) (ys ++ a ∷ []) (all_end kind.IsArc xs a h is) (all_end kind.IsArc ys a g is)
      (same_push kind.Same laws.meaning xs ys a s) in
      inl (omega (arith, e, f, more))
  needs_same xs ys a h g is s (inr spreads) = inr (sized.same_spreads xs ys a h g s spreads)

  -- an arc that means something makes an entry of a pair without arcs
  pub needs_first : (a : Arc) (listed : List Arc) → kind.IsArc a → kind.Same listed (a ∷ []) → (kind.Same listed [] → ⊥)
      → NeedsMore sizes [] a
  needs_first a listed is same some = by_count (sizes.entries (a ∷ [])) refl
    where
      by_count : (n : ℕ) → sizes.entries (a ∷ []) ≡ n → NeedsMore sizes [] a
      by_count zero e =
          absurd (some (laws.meaning.same_trans listed (a ∷ []) [] same (sized.no_entries (a ∷ []) (is, tt) e)))
      by_count (suc n) e = let none = sized.none_entries in inl (omega (arith, none, e))

-- at a pair without a bundle, an arc needs memory if it does alone
pub needs_fresh : {B Arc : Type 0} (sizes : ArcSizes Arc) (lists : B → List Arc) (m : List ((ℤ × ℤ) × B)) (pair : ℤ × ℤ)
    (arc : Arc) → lookup (same_pair pair) m ≡ None → NeedsMore sizes [] arc
    → NeedsMore sizes (listed_at lists m pair) arc
needs_fresh sizes lists m pair arc e h = rw e h

-- at a pair with a bundle, an arc needs memory if the bundle does
pub needs_listed : {B Arc : Type 0} (sizes : ArcSizes Arc) (lists : B → List Arc) (arc : Arc)
    (m now : List ((ℤ × ℤ) × B)) (pair : ℤ × ℤ) (listed : List Arc) → m ≡ now → listed_at lists m pair ≡ listed
    → NeedsMore sizes listed arc → NeedsMore sizes (listed_at lists now pair) arc
needs_listed sizes lists arc m now pair listed e f h = rw (← e) (rw f h)

-- an arc for which the table needs memory at its pair is one for which the graph of its arcs does
pub needs_graph : {B Arc : Type 0} (kind : ArcKind Arc) (sizes : ArcSizes Arc) → IsKind kind → AreSizes kind sizes
    → (lists : B → List Arc)
    (table : List ((ℤ × ℤ) × B)) (arcs : List ((ℤ × ℤ) × Arc)) (pair : ℤ × ℤ) (arc : Arc)
    → TableLists kind lists table arcs → AreArcs kind arcs → kind.IsArc arc
    → NeedsMore sizes (listed_at lists table pair) arc → GraphNeedsMore sizes arcs (pair, arc)
needs_graph kind sizes laws sized lists table arcs pair arc t are is h =
    let stands = t.stands pair in
    by_case
    (needs_same kind sizes laws sized (listed_at lists table pair) (bundle pair arcs) arc
    (laws.canon_arcs One (listed_at lists table pair) stands.canonical) (bundle_arcs kind.IsArc pair arcs are) is
    stands.same h)
  where
    by_case : NeedsMore sizes (bundle pair arcs) arc → GraphNeedsMore sizes arcs (pair, arc)
    by_case (inl more) = inl (graph_grows sizes sized.none_entries arcs (pair, arc) more)
    by_case (inr spreads) = inr spreads
