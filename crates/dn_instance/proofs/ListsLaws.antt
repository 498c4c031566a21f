-- Lemmas on a table that represents arcs when one more arc is added.
use Rattle.std.proofs.Common.{◌≡◌, ◌↔◌, ℤ, pos, ◌<ℤ◌, ◌-◌, ◌^◌, ◌&&◌, arith, List, [], ◌∷◌, ◌++◌, Bool, true, false, Option, Some, None, refl, append-nil, inl, inr, Err, Result}
use Rattle.std.proofs.lemmas.Bool.{cases_Bool, cond_both}
use Rattle.std.specs.List.{AllByRecursion}
use Rattle.std.specs.Map.{lookup}
use Rattle.dn_arc_theory.specs.declared.arc.Form.TheVariants.{One}
use Rattle.dn_arc_theory.specs.Kinds.{ArcKind}
use Rattle.dn_arc_theory.specs.State.CanonArcs.{AreCanonArcsOf}
use Rattle.dn_arc_theory.specs.State.Bundles.{IsKind, listed_of}
use Rattle.dn_arc_theory.proofs.OrdersLaws.{same_push}
use Rattle.dn_arc_theory.specs.Pairs.{bundle, same_pair}
use Rattle.dn_table.specs.State.Tables.{listed_at, Grows, TableLists, AreArcs, Stays}
use Rattle.dn_arc_theory.proofs.PairLaws.{pair_is, pair_self, bundle_push}
use Rattle.dn_table.proofs.PairLaws.{other_pair}
use Rattle.dn_instance.proofs.SumLaws.{passes}
use Rattle.dn_bundle_trait.specs.declared.bundle.BundleFault.{BundleFault}
use Rattle.dn_bundle_trait.specs.declared.bundle.BundleFault.TheVariants as BundleFaults
use Rattle.dn_instance.specs.declared.refusal.ItemFault.TheVariants as ItemFaults
use Rattle.dn_instance.specs.State.ItemFaults.{AnswersFault, in_graph, arc_fault, item_fault}
use Rattle.dn_line.specs.declared.code.Code.TheVariants.{SumTooLarge}
use Rattle.std.proofs.lemmas.Int.{ints, by_lt_z}
use Rattle.dn_bundle_trait.proofs.BundleLaws.{all_end}

module _ {B Arc : Type 0} (kind : ArcKind Arc) (lists : B → List Arc) (laws : IsKind kind)
    (canonical : (b : B) → kind.IsCanon One (lists b)) where
  listed_canon : (o : Option B) → kind.IsCanon One (listed_of lists o)
  listed_canon None = laws.none_canon One
  listed_canon (Some b) = canonical b

bundle_arcs : {Arc : Type 0} (kind : ArcKind Arc) (p : ℤ × ℤ) (arcs : List ((ℤ × ℤ) × Arc)) → AreArcs kind arcs
    → AllByRecursion kind.IsArc (bundle p arcs)
bundle_arcs kind p [] h = tt
bundle_arcs kind p (a ∷ rest) h =
    cond_both (same_pair p a.0) _ _ (AllByRecursion kind.IsArc) (λ e. (h.0, bundle_arcs kind p rest h.1))
    (λ e. bundle_arcs kind p rest h.1)

module _ {B Arc : Type 0} (kind : ArcKind Arc) (lists : B → List Arc) (laws : IsKind kind)
    (canonical : (b : B) → kind.IsCanon One (lists b)) (stays : Stays kind)
    (m n : List ((ℤ × ℤ) × B)) (arcs : List ((ℤ × ℤ) × Arc)) (pair : ℤ × ℤ) (arc : Arc)
    (old : TableLists kind lists m arcs) (are : AreArcs kind arcs) (is : kind.IsArc arc)
    (grows : Grows kind lists m n pair arc) where
  bundle_here : bundle pair (arcs ++ (pair, arc) ∷ []) ≡ bundle pair arcs ++ arc ∷ []
  bundle_here = rw (bundle_push pair arcs (pair, arc), pair_self pair)

  bundle_there : (p : ℤ × ℤ) → same_pair p pair ≡ false → bundle p (arcs ++ (pair, arc) ∷ []) ≡ bundle p arcs
  bundle_there p e = rw (bundle_push p arcs (pair, arc), e) (append-nil (bundle p arcs))

  same_here : kind.Same (listed_at lists n pair) (bundle pair (arcs ++ (pair, arc) ∷ []))
  same_here =
      rw bundle_here (laws.meaning.same_trans (listed_at lists n pair) (listed_at lists m pair ++ arc ∷ [])
      (bundle pair arcs ++ arc ∷ []) grows.here
      (same_push kind.Same laws.meaning (listed_at lists m pair) (bundle pair arcs) arc (old.stands pair).same))

  absent_here : (lookup (same_pair pair) n ≡ None) ↔ kind.Same (bundle pair (arcs ++ (pair, arc) ∷ [])) []
  absent_here = by_old (lookup (same_pair pair) m) refl
    where
      by_old : (o : Option B) → lookup (same_pair pair) m ≡ o
          → (lookup (same_pair pair) n ≡ None) ↔ kind.Same (bundle pair (arcs ++ (pair, arc) ∷ [])) []
      by_old None e =
          let f = grows.fresh e in
          let listed = listed_at lists n pair in
          let here = bundle pair (arcs ++ (pair, arc) ∷ []) in (
            λ g. laws.meaning.same_trans here listed [] (laws.meaning.same_sym listed here same_here) (f.0 g),
            λ s. f.1 (laws.meaning.same_trans listed here [] same_here s),
          )
      by_old (Some b) e = (
        λ g. cc (g, grows.kept (rw e refl)),
        λ s. cc (
          e,
          (old.absent pair).1 (stays (bundle pair arcs) arc (bundle_arcs kind pair arcs are) is (rw bundle_here at s)),
        ),
      )

  stands_at : (p : ℤ × ℤ) → AreCanonArcsOf kind (listed_at lists n p) (bundle p (arcs ++ (pair, arc) ∷ []))
  stands_at p = record {
    canonical = listed_canon kind lists laws canonical (lookup (same_pair p) n);
    same = elim (cases_Bool (same_pair pair p)) [
      | inl e ↦ rw (← pair_is pair p e) same_here
      | inr e ↦ rw (bundle_there p (other_pair pair p e), grows.others p e) (old.stands p).same
    ];
  }

  absent_at : (p : ℤ × ℤ) → (lookup (same_pair p) n ≡ None) ↔ kind.Same (bundle p (arcs ++ (pair, arc) ∷ [])) []
  absent_at p = elim (cases_Bool (same_pair pair p)) [
    | inl e ↦ rw (← pair_is pair p e) absent_here
    | inr e ↦ rw (bundle_there p (other_pair pair p e), grows.others p e) (old.absent p)
  ]

  -- the new table represents the arcs with one more arc
  pub lists_more : TableLists kind lists n (arcs ++ (pair, arc) ∷ [])
  lists_more = record { stands = stands_at; absent = absent_at }

-- at a pair, the arcs of the graph and those that the table lists have the same capacity with one more arc
pub listed_capacity : {B Arc : Type 0} (kind : ArcKind Arc) (lists : B → List Arc) → IsKind kind
    → (m : List ((ℤ × ℤ) × B)) (arcs : List ((ℤ × ℤ) × Arc)) (p : ℤ × ℤ) (arc : Arc) → TableLists kind lists m arcs
    → AreArcs kind arcs → kind.IsArc arc
    → kind.capacity (listed_at lists m p ++ arc ∷ []) ≡ kind.capacity (bundle p arcs ++ arc ∷ [])
listed_capacity kind lists laws m arcs p arc old are is =
    laws.same_capacity (listed_at lists m p ++ arc ∷ []) (bundle p arcs ++ arc ∷ [])
    (all_end kind.IsArc (listed_at lists m p) arc (laws.canon_arcs One (listed_at lists m p) (old.stands p).canonical)
    is) (all_end kind.IsArc (bundle p arcs) arc (bundle_arcs kind p arcs are) is)
    (same_push kind.Same laws.meaning (listed_at lists m p) (bundle p arcs) arc (old.stands p).same)

-- an arc has no fault, or only that of its sum
pub taken_fault : {Arc : Type 0} (kind : ArcKind Arc) (nodes : ℤ) (arcs : List ((ℤ × ℤ) × Arc)) (is : Bool)
    (a : (ℤ × ℤ) × Arc) → (in_graph nodes a.0.0 && in_graph nodes a.0.1) ≡ true → is ≡ true → passes kind arcs a ≡ false
    → arc_fault kind nodes arcs is a ≡ None
taken_fault kind nodes arcs is a e f g = rw (e, f, g) refl

pub sum_fault : {Arc : Type 0} (kind : ArcKind Arc) (nodes : ℤ) (arcs : List ((ℤ × ℤ) × Arc)) (is : Bool)
    (a : (ℤ × ℤ) × Arc) → (in_graph nodes a.0.0 && in_graph nodes a.0.1) ≡ true → is ≡ true → passes kind arcs a ≡ true
    → arc_fault kind nodes arcs is a ≡ Some SumTooLarge
sum_fault kind nodes arcs is a e f g = rw (e, f, g) refl

abbrev refused : {E : Type 0} → E → Result (Unit {0}) E
refused e = Err e

-- the first fault of an arc that a bundle does not take
pub arc_refused : {Arc : Type 0} (kind : ArcKind Arc) (nodes : ℤ) (arcs : List ((ℤ × ℤ) × Arc)) (is : Bool)
    (a : (ℤ × ℤ) × Arc) (f : BundleFault) → (in_graph nodes a.0.0 && in_graph nodes a.0.1) ≡ true → is ≡ true
    → (refused f ≡ refused BundleFaults.Sum → passes kind arcs a ≡ true)
    × ((refused f ≡ refused BundleFaults.Sum → ⊥) → passes kind arcs a ≡ false)
    → AnswersFault (Err (item_fault f)) (arc_fault kind nodes arcs is a)
arc_refused kind nodes arcs is a BundleFaults.Sum e f g = sum_fault kind nodes arcs is a e f (g.0 refl)
arc_refused kind nodes arcs is a BundleFaults.Memory e f g = taken_fault kind nodes arcs is a e f (g.1 (λ q. cc))

-- memory runs out for the item exactly if it runs out for the bundle
pub memory_of : (f : BundleFault) → refused (item_fault f) ≡ refused ItemFaults.Memory
    → refused f ≡ refused BundleFaults.Memory
memory_of BundleFaults.Sum e = cc
memory_of BundleFaults.Memory e = refl

-- the sum of the capacities is too large exactly if the table finds it too large
pub sum_passes : {B Arc F : Type 0} (kind : ArcKind Arc) (lists : B → List Arc) → IsKind kind
    → (m : List ((ℤ × ℤ) × B)) (arcs : List ((ℤ × ℤ) × Arc)) (p : ℤ × ℤ) (arc : Arc) → TableLists kind lists m arcs
    → AreArcs kind arcs → kind.IsArc arc → F ↔ (pos (2 ^ 63 - 1) <ℤ kind.capacity (listed_at lists m p ++ arc ∷ []))
    → (F → passes kind arcs (p, arc) ≡ true) × ((F → ⊥) → passes kind arcs (p, arc) ≡ false)
sum_passes kind lists laws m arcs p arc old are is h =
    let past = kind.capacity (bundle p arcs ++ arc ∷ []) in
    let e = rw (listed_capacity kind lists laws m arcs p arc old are is) at h in (
      λ f. grind (arith, ints, e.0 f),
      λ no. by_lt_z (pos (2 ^ 63 - 1)) past (λ lt. absurd (no (e.1 lt))) (λ le. grind (arith, ints)),
    )
