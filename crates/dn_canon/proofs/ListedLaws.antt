-- Lemmas that the arcs that the bundles of a table list make the canonical graph of what the table represents.
use Rattle.std.proofs.Common.{inl, inr, ◌≡◌, ℤ, pos, negsuc, List, [], ◌∷◌, ◌++◌, true, cond, Option, Some, None, w64, refl, ap, arith, append-nil, length}
use Rattle.std.proofs.lemmas.Bool.Decides.{nat_tests}
use Rattle.std.proofs.lemmas.List.{length-append, length-map}
use Rattle.std.proofs.lemmas.List.Sums.{sum_by-cons}
use Rattle.std.proofs.lemmas.Map.Keys.{sorted_head, sorted_tail}
use Rattle.std.specs.Int.RustNames.{FitsSigned}
use Rattle.std.specs.List.{AllByRecursion}
use Rattle.std.specs.List.Sorted.{IsStrictlySortedBy}
use Rattle.std.specs.Map.{keys_of, lookup}
use Rattle.std.specs.Ordering.{is_le}
use Rattle.std.specs.declared.cmp.Ordering.TheVariants.{Less}
use Rattle.std.proofs.lemmas.Bool.{cases_Bool}
use Rattle.dn_num.specs.Number.{fits}
use Rattle.dn_arc_theory.specs.declared.arc.Form.{Form}
use Rattle.dn_arc_theory.specs.declared.arc.Form.TheVariants.{One, Two}
use Rattle.dn_arc_theory.specs.Kinds.{ArcKind, costs, capacities}
use Rattle.dn_arc_theory.specs.State.CanonArcs.{AreCanonArcsOf}
use Rattle.dn_arc_theory.specs.declared.arc.CapArc.{CapArc}
use Rattle.dn_arc_theory.specs.declared.arc.CostArc.{CostArc}
use Rattle.dn_arc_theory.specs.State.Bundles.{IsKind, NumbersFit, listed_of}
use Rattle.dn_instance.specs.Instances.{Graph, MinCostFlow, MaxFlow}
use Rattle.dn_arc_theory.specs.Pairs.{bundle, pair_cmp, same_pair}
use Rattle.dn_table.specs.State.ListedEntries.{entries_listed}
use Rattle.dn_table.specs.State.Tables.{listed_at}
use Rattle.dn_instance.specs.Validity.{Fits, IsNode, IsPlaced, IsValidGraph, AreSupplies, AreTerminals}
use Rattle.dn_arc_theory.proofs.PairLaws.{pair_is, pair_self, int_self}
use Rattle.dn_canon.specs.CanonInstances.{AreInOrder, IsCanonInstanceOf}
use Rattle.dn_canon.specs.State.CanonGraphs.{IsCanonGraphOf}
use Rattle.dn_canon.specs.State.ListedArcs.{placed, listed_arcs, listed_graph}
use Rattle.dn_canon.proofs.OrderLaws.{NoneBefore, all_at_pair}

fits_signed : (n : ℤ) → FitsSigned w64 n → fits n ≡ true
fits_signed (pos n) f = (let h = f.sfits in grind (arith, nat_tests))
fits_signed (negsuc n) f = (let h = f.sfits in grind (arith, nat_tests))

all_fit : (ns : List ℤ) → AllByRecursion (FitsSigned w64) ns → AllByRecursion Fits ns
all_fit [] h = tt
all_fit (n ∷ ns) h = (fits_signed n h.0, all_fit ns h.1)

module _ {Arc : Type 0} where
  -- the arcs of a pair, in a list that begins with arcs placed at one pair
  pub bundle_placed : (q p : ℤ × ℤ) (xs : List Arc) (rest : List ((ℤ × ℤ) × Arc))
      → bundle q (placed p xs ++ rest) ≡ cond (same_pair q p) (xs ++ bundle q rest) (bundle q rest)
  bundle_placed q p [] rest = elim (cases_Bool (same_pair q p)) [ inl e ↦ rw e | inr e ↦ rw e ]
  bundle_placed q p (x ∷ xs) rest =
      rw (bundle_placed q p xs rest) (elim (cases_Bool (same_pair q p)) [ inl e ↦ rw e | inr e ↦ rw e ])

  -- arcs placed at p, followed by sorted arcs none of which is before p, are sorted
  pub order_placed : (p : ℤ × ℤ) (xs : List Arc) (rest : List ((ℤ × ℤ) × Arc)) → NoneBefore p rest → AreInOrder rest
      → NoneBefore p (placed p xs ++ rest) × AreInOrder (placed p xs ++ rest)
  order_placed p [] rest n r = (n, r)
  order_placed p (x ∷ xs) rest n r =
      let more = order_placed p xs rest n r in ((rw (int_self p.0, int_self p.1), more.0), more)

  before_placed : (k p : ℤ × ℤ) (xs : List Arc) (rest : List ((ℤ × ℤ) × Arc)) → pair_cmp k p ≡ Less → NoneBefore k rest
      → NoneBefore k (placed p xs ++ rest)
  before_placed k p [] rest e n = n
  before_placed k p (x ∷ xs) rest e n = (ap is_le e, before_placed k p xs rest e n)

  -- what holds of the arcs of each pair holds of each arc
  pub all_from : (P : (ℤ × ℤ) × Arc → Type 0) (arcs : List ((ℤ × ℤ) × Arc))
      → ((q : ℤ × ℤ) → AllByRecursion (λ x. P (q, x)) (bundle q arcs)) → AllByRecursion P arcs
  all_from P [] h = tt
  all_from P (a ∷ rest) h = (
    (rw (pair_self a.0) at (h a.0)).0,
    all_from P rest (λ q. elim (cases_Bool (same_pair q a.0)) [ inl e ↦ (rw e at (h q)).1 | inr e ↦ rw e at (h q) ]),
  )

  -- a fact of each arc's pair holds of a pair that has an arc
  pub at_some : (P : (ℤ × ℤ) × Arc → Type 0) (Q : ℤ × ℤ → Type 0) → ((a : (ℤ × ℤ) × Arc) → P a → Q a.0)
      → (arcs : List ((ℤ × ℤ) × Arc)) (q : ℤ × ℤ) (x : Arc) (xs : List Arc) → AllByRecursion P arcs
      → bundle q arcs ≡ x ∷ xs → Q q
  at_some P Q lists [] q x xs all e = cc
  at_some P Q lists (a ∷ rest) q x xs all e = elim (cases_Bool (same_pair q a.0)) [
    | inl t ↦ rw (pair_is q a.0 t) (lists a all.0)
    | inr t ↦ at_some P Q lists rest q x xs all.1 (rw t at e)
  ]

  module _ {B : Type 0} (lists : B → List Arc) where
    none_before : (k : ℤ × ℤ) (es : List ((ℤ × ℤ) × B)) → AllByRecursion (λ y. pair_cmp k y ≡ Less) (keys_of es)
        → NoneBefore k (listed_arcs lists es)
    none_before k [] h = tt
    none_before k (e ∷ es) h = before_placed k e.0 (lists e.1) _ h.0 (none_before k es h.1)

    -- the listed arcs of a table are sorted by pair
    listed_order : (es : List ((ℤ × ℤ) × B)) → IsStrictlySortedBy pair_cmp (keys_of es)
        → AreInOrder (listed_arcs lists es)
    listed_order [] s = tt
    listed_order (e ∷ es) s =
        (order_placed e.0 (lists e.1) _ (none_before e.0 es (sorted_head pair_cmp e.0 (keys_of es) s))
        (listed_order es (sorted_tail pair_cmp e.0 (keys_of es) s))).1

    none_listed : (k : ℤ × ℤ) (es : List ((ℤ × ℤ) × B)) → AllByRecursion (λ y. pair_cmp k y ≡ Less) (keys_of es)
        → bundle k (listed_arcs lists es) ≡ []
    none_listed k [] h = refl
    none_listed k (e ∷ es) h =
        rw (bundle_placed k e.0 (lists e.1) (listed_arcs lists es), h.0) (none_listed k es h.1)

    -- the listed arcs at a pair are those of its bundle
    listed_bundle : (q : ℤ × ℤ) (es : List ((ℤ × ℤ) × B)) → IsStrictlySortedBy pair_cmp (keys_of es)
        → bundle q (listed_arcs lists es) ≡ listed_at lists es q
    listed_bundle q [] s = refl
    listed_bundle q (e ∷ es) s =
        rw (bundle_placed q e.0 (lists e.1) (listed_arcs lists es)) (elim (cases_Bool (same_pair q e.0)) [
          | inl t ↦ rw (t, pair_is q e.0 t, none_listed e.0 es (sorted_head pair_cmp e.0 (keys_of es) s), append-nil)
          | inr t ↦ rw t (listed_bundle q es (sorted_tail pair_cmp e.0 (keys_of es) s))
        ])

-- what bundles list is canonical in each form, means the same in both, and has numbers of 64 bits
module _ {B Arc : Type 0} {kind : ArcKind Arc} (laws : IsKind kind) (listed : Form → B → List Arc)
    (canonical : (form : Form) (b : B) → kind.IsCanon form (listed form b))
    (same_forms : (b : B) → kind.Same (listed Two b) (listed One b))
    (fits : (form : Form) (b : B) → NumbersFit kind (listed form b)) (form : Form) where
  same_one : (f : Form) (b : B) → kind.Same (listed f b) (listed One b)
  same_one One b = laws.meaning.same_refl _
  same_one Two b = same_forms b

  -- canonical arcs with numbers of 64 bits, that mean what the arcs of the first form mean
  record AreListed (xs ys : List Arc) : Type 0 where
    canon : kind.IsCanon form xs
    fit : NumbersFit kind xs
    same : kind.Same xs ys

  at_pair : (o : Option B) → AreListed (listed_of (listed form) o) (listed_of (listed One) o)
  at_pair None = record { canon = laws.none_canon form; fit = tt; same = laws.meaning.same_refl [] }
  at_pair (Some b) = record { canon = canonical form b; fit = fits form b; same = same_one form b }

  -- arcs at a pair of nodes, with numbers of 64 bits, are placed in the graph
  each_placed : (n : ℤ) (q : ℤ × ℤ) → IsNode n q.0 × IsNode n q.1 → (xs : List Arc) → AllByRecursion kind.IsArc xs
      → NumbersFit kind xs → AllByRecursion (λ x. IsPlaced kind n (q, x)) xs
  each_placed n q h [] is fit = tt
  each_placed n q h (x ∷ xs) is fit =
      (record { tail = h.0; head = h.1; is_arc = is.0; numbers = all_fit _ fit.0 }, each_placed n q h xs is.1 fit.1)

  -- canonical arcs that mean what placed arcs of the pair mean are placed too
  placed_at : (n : ℤ) (q : ℤ × ℤ) (arcs : List ((ℤ × ℤ) × Arc)) (xs : List Arc) → AllByRecursion (IsPlaced kind n) arcs
      → AreListed xs (bundle q arcs) → AllByRecursion (λ x. IsPlaced kind n (q, x)) xs
  placed_at n q arcs xs v l = by_bundle (bundle q arcs) refl l.same
    where
      by_bundle : (bs : List Arc) → bundle q arcs ≡ bs → kind.Same xs bs
          → AllByRecursion (λ x. IsPlaced kind n (q, x)) xs
      by_bundle [] f g = rw (laws.nothing_listed form xs l.canon g) tt
      by_bundle (b ∷ bs) f g =
          each_placed n q
          (at_some (IsPlaced kind n) (λ p. IsNode n p.0 × IsNode n p.1) (λ a h. (h.tail, h.head)) arcs q b bs v f) xs
          (laws.canon_arcs form xs l.canon) l.fit

  -- the listed arcs of a table make the canonical graph
  pub listed_canon : (nodes : ℤ) (table : List ((ℤ × ℤ) × B)) (G : Graph Arc) → G.nodes ≡ nodes
      → IsStrictlySortedBy pair_cmp (keys_of table)
      → ((p : ℤ × ℤ) → AreCanonArcsOf kind (listed_at (listed One) table p) (bundle p G.arcs)) → IsValidGraph kind G
      → IsCanonGraphOf kind form (listed_graph (listed form) nodes table) G
  listed_canon nodes table G is ascending stands valid =
      let all = listed_arcs (listed form) table in
      let at : (q : ℤ × ℤ) → AreListed (bundle q all) (bundle q G.arcs) = λ q.
      let l = at_pair (lookup (same_pair q) table) in
      rw (listed_bundle (listed form) q table ascending)
      (record { canon = l.canon; fit = l.fit; same = laws.meaning.same_trans _ _ _ l.same (stands q).same }) in
      rw (← is) (record {
        valid = record {
          some_nodes = valid.some_nodes;
          nodes_fit = valid.nodes_fit;
          placed = all_from (IsPlaced kind G.nodes) all (λ q. placed_at G.nodes q G.arcs _ valid.placed (at q));
          capacities =
              λ q. rw (laws.same_capacity (bundle q all) (bundle q G.arcs) (laws.canon_arcs form _ (at q).canon)
              (all_at_pair (IsPlaced kind G.nodes) kind.IsArc (λ a p. p.is_arc) q G.arcs valid.placed) (at q).same)
              (valid.capacities q);
        };
        canonical = record { in_order = listed_order (listed form) table ascending; canonical = λ q. (at q).canon };
        same = record { nodes = refl; bundles = λ q. laws.meaning.same_sym _ _ (at q).same };
      })

-- the canonical instance of a `min` problem has its supplies and its canonical graph
pub min_canon : (form : Form) (supplies : List (ℤ × ℤ)) (G H : Graph CostArc) → IsCanonGraphOf costs form H G
    → AreSupplies H.nodes supplies → IsCanonInstanceOf form (MinCostFlow supplies H) (MinCostFlow supplies G)
min_canon form supplies G H c are = record { valid = (c.valid, are); canonical = c.canonical; same = (refl, c.same) }

-- the canonical instance of a `max` problem has its source, its sink and its canonical graph
pub max_canon : (form : Form) (source sink : ℤ) (G H : Graph CapArc) → IsCanonGraphOf capacities form H G
    → AreTerminals H.nodes source sink → IsCanonInstanceOf form (MaxFlow source sink H) (MaxFlow source sink G)
max_canon form source sink G H c are =
    record { valid = (c.valid, are); canonical = c.canonical; same = (refl, refl, c.same) }

-- the canonical arcs of a `min` problem do not depend on its supplies
pub min_head : (form : Form) (s t : List (ℤ × ℤ)) (G H : Graph CostArc) → AreSupplies G.nodes t
    → IsCanonInstanceOf form (MinCostFlow s H) (MinCostFlow s G)
    → IsCanonInstanceOf form (MinCostFlow t H) (MinCostFlow t G)
min_head form s t G H are c = record {
  valid = (c.valid.0, rw c.same.1.nodes at are);
  canonical = c.canonical;
  same = (refl, c.same.1);
}

-- the canonical arcs of a `max` problem do not depend on its source and sink
pub max_head : (form : Form) (a b s t : ℤ) (G H : Graph CapArc) → AreTerminals G.nodes s t
    → IsCanonInstanceOf form (MaxFlow a b H) (MaxFlow a b G) → IsCanonInstanceOf form (MaxFlow s t H) (MaxFlow s t G)
max_head form a b s t G H are c = record {
  valid = (c.valid.0, rw c.same.2.nodes at are);
  canonical = c.canonical;
  same = (refl, refl, c.same.2);
}

-- the listed arcs are as many as those of all bundles
pub count_listed : {B Arc : Type 0} (lists : B → List Arc) (es : List ((ℤ × ℤ) × B))
    → entries_listed (λ b. length (lists b)) es ≡ length (listed_arcs lists es)
count_listed lists [] = refl
count_listed {B} {Arc} lists (e ∷ es) =
    omega (
      arith,
      sum_by-cons (λ (x : (ℤ × ℤ) × B). length (lists x.1)) e es,
      length-append (placed e.0 (lists e.1)) (listed_arcs lists es),
      length-map {B = (ℤ × ℤ) × Arc} (lists e.1) (λ a. (e.0, a)),
      count_listed lists es,
    )
