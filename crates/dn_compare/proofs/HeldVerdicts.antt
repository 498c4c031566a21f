-- Lemmas on the verdict on two parsed instances.
use Rattle.std.proofs.Common.{inl, inr, ◌≡◌, ◌≢◌, ℕ, suc, zero, ℤ, pos, List, [], ◌∷◌, Option, Some, None, refl, sym, ap, ◌∙◌, arith, length}
use Rattle.std.specs.BTreeMap.{is_at}
use Rattle.std.specs.List.{AllByRecursion}
use Rattle.std.specs.List.Sorted.{IsStrictlySortedBy}
use Rattle.std.specs.Map.{keys_of}
use Rattle.std.specs.Ordering.{int_cmp}
use Rattle.std.proofs.lemmas.Cmp.{int_cmp_total}
use Rattle.std.proofs.lemmas.Int.{ints}
use Rattle.std.proofs.lemmas.Map.Lookups.{exact_signed}
use Rattle.std.proofs.lemmas.Bool.{cases_Bool}
use Rattle.dn_line.specs.declared.kind.Kind.{Kind}
use Rattle.dn_arc_theory.specs.Differences.{CurvesDiffer, LengthsDiffer, TotalsDiffer}
use Rattle.dn_arc_theory.specs.State.Bundles.{ArcDiffer, AreDifferences}
use Rattle.dn_arc_theory.specs.Kinds.{ArcKind, costs, capacities, lengths}
use Rattle.dn_arc_theory.specs.declared.arc.LengthArc.{LengthArc}
use Rattle.dn_arc_theory.specs.declared.arc.CapArc.{CapArc}
use Rattle.dn_arc_theory.specs.declared.arc.CostArc.{CostArc}
use Rattle.dn_arc_theory.specs.State.SingleArcs.{length_listed, cap_listed}
use Rattle.dn_arc_theory.specs.State.CurveListed.{listed}
use Rattle.dn_arc_theory.specs.declared.arc.Form.TheVariants.{One}
use Rattle.dn_arc_theory.specs.State.Curves.{CurveNumbers}
use Rattle.dn_bundle.specs.declared.least.Least.{Least}
use Rattle.dn_bundle.specs.declared.total.Total.{Total}
use Rattle.dn_arc_theory.specs.declared.difference.How.{How}
use Rattle.dn_arc_theory.proofs.CostKindLaws.{cost_differs}
use Rattle.dn_arc_theory.proofs.TotalKindLaws.{total_differs}
use Rattle.dn_arc_theory.proofs.LengthKindLaws.{length_differs}
use Rattle.dn_instance.specs.State.Helds.{Contents, Parsed, OfMin, OfMax, OfSp, OfSs, OfP2p, OfCo, IsHeld, contents_kind}
use Rattle.dn_instance.specs.Instances.{Graph, Instance, MinCostFlow, MaxFlow, ShortestPaths, Sources, Queries, Coordinates, kind_of, nodes_of}
use Rattle.dn_arc_theory.specs.Pairs.{bundle}
use Rattle.dn_instance.specs.Sameness.{IsSame}
use Rattle.dn_instance.proofs.HeldLaws.{held_kind}
use Rattle.dn_table.specs.State.Tables.{TableLists}
use Rattle.dn_instance.specs.Validity.{IsSupply, IsValid}
use Rattle.dn_compare.specs.Observed.{value_of, flow_or_zero, flow_of, source_of, sink_of, item_at, count_of}
use Rattle.dn_compare.specs.FirstDifference.{BundlesDiffer, IsFirstDifference, ItemsDiffer}
use Rattle.dn_compare.specs.State.Partings.{by_flow, by_point, AlikeAt, PartAt, IsPairVerdict, IsListVerdict, IsVerdictOn}
use Rattle.dn_instance.specs.declared.verdict.Verdict.{Verdict}
use Rattle.dn_instance.specs.declared.verdict.Verdict.TheVariants as Verdicts
use Rattle.dn_compare.proofs.PeekedLaws.{same_entries}
use Rattle.dn_compare.proofs.FirstLaws.{kind_first, nodes_first, supply_first, source_first, sink_first, pair_first, length_first, item_first, point_first}
use Rattle.dn_compare.proofs.VerdictLaws.{same_first}

-- ---- graphs

module _ {Arc : Type 0} {kind : ArcKind Arc} {ArcsDiffer : ArcDiffer Arc} (differs : AreDifferences kind ArcsDiffer)
    (xs ys : List ((ℤ × ℤ) × Arc)) where
  pairs_first : (I J : Instance)
      → ((p : ℤ × ℤ) (how : How) → ArcsDiffer (bundle p xs) (bundle p ys) how → BundlesDiffer I J p how)
      → ((p : ℤ × ℤ) (how : How) → BundlesDiffer I J p how → ArcsDiffer (bundle p xs) (bundle p ys) how)
      → (((p : ℤ × ℤ) → kind.Same (bundle p xs) (bundle p ys)) → IsSame I J)
      → kind_of I ≡ kind_of J → nodes_of I ≡ nodes_of J → ((id : ℤ) → flow_of I id ≡ flow_of J id)
      → source_of I ≡ source_of J → sink_of I ≡ sink_of J
      → (v : Verdict) → IsPairVerdict kind ArcsDiffer xs ys v → IsFirstDifference I J v
  pairs_first I J there back same k n f s t Verdicts.Same h = same_first I J (same h)
  pairs_first I J there back same k n f s t (Verdicts.Pair src dst how) h =
      pair_first I J k n f s t src dst how (there (src, dst) how h.differ)
      (λ q other lt d. differs.none_differ _ _ other (back q other d) (h.same_before q lt))
  pairs_first I J there back same k n f s t _ h = absurd h

pub min_pairs : (s t : List (ℤ × ℤ)) (G H : Graph CostArc) (v : Verdict) → s ≡ t → G.nodes ≡ H.nodes
    → IsPairVerdict costs CurvesDiffer G.arcs H.arcs v → IsFirstDifference (MinCostFlow s G) (MinCostFlow t H) v
min_pairs s t G H v e n h =
    pairs_first cost_differs G.arcs H.arcs (MinCostFlow s G) (MinCostFlow t H) (λ p how d. d) (λ p how d. d)
    (λ same. (e, record { nodes = n; bundles = same })) refl n (λ id. rw e) refl refl v h

pub max_pairs : (a b c d : ℤ) (G H : Graph CapArc) (v : Verdict) → a ≡ c → b ≡ d → G.nodes ≡ H.nodes
    → IsPairVerdict capacities TotalsDiffer G.arcs H.arcs v → IsFirstDifference (MaxFlow a b G) (MaxFlow c d H) v
max_pairs a b c d G H v e f n h =
    pairs_first total_differs G.arcs H.arcs (MaxFlow a b G) (MaxFlow c d H) (λ p how x. x) (λ p how x. x)
    (λ same. (e, f, record { nodes = n; bundles = same })) refl n (λ id. refl) (rw e) (rw f) v h

pub sp_pairs : (G H : Graph LengthArc) (v : Verdict) → G.nodes ≡ H.nodes
    → IsPairVerdict lengths LengthsDiffer G.arcs H.arcs v → IsFirstDifference (ShortestPaths G) (ShortestPaths H) v
sp_pairs G H v n h =
    pairs_first length_differs G.arcs H.arcs (ShortestPaths G) (ShortestPaths H) (λ p how d. d) (λ p how d. d)
    (λ same. record { nodes = n; bundles = same }) refl n (λ id. refl) refl refl v h

-- ---- supplies

pub inner : {A : Type 0} (l r : A) → l ≢ r → Some l ≢ Some r
inner l r n e = n (cc)

pub supply_at : (s t : List (ℤ × ℤ)) (G H : Graph CostArc) (id l r : ℤ) → G.nodes ≡ H.nodes
    → PartAt int_cmp by_flow s t id (l, r)
    → IsFirstDifference (MinCostFlow s G) (MinCostFlow t H) (Verdicts.Supply id l r)
supply_at s t G H id l r n d =
    supply_first (MinCostFlow s G) (MinCostFlow t H) refl n id l r
    (ap Some d.differ.0, ap Some d.differ.1, inner l r d.differ.2) (λ q lt. ap Some (d.same_before q lt))

-- a flow in valid supplies is not 0
some_flow : (nodes id b : ℤ) (s : List (ℤ × ℤ)) → AllByRecursion (IsSupply nodes) s → value_of s id ≡ Some b → b ≢ pos 0
some_flow nodes id b [] a e = cc
some_flow nodes id b (x ∷ s) a e = elim (cases_Bool (is_at (int_cmp id) x.0)) [
  | inl t ↦ (let same : Some x.1 ≡ Some b = rw t at e in λ z. a.0.some (cc))
  | inr t ↦ some_flow nodes id b s a.1 (rw t at e)
]

same_flow : (a b : Option ℤ) → ((z : ℤ) → a ≡ Some z → z ≢ pos 0) → ((z : ℤ) → b ≡ Some z → z ≢ pos 0)
    → flow_or_zero a ≡ flow_or_zero b → a ≡ b
same_flow None None f g e = refl
same_flow None (Some z) f g e = absurd (g z refl (sym e))
same_flow (Some z) None f g e = absurd (f z refl e)
same_flow (Some y) (Some z) f g e = ap Some e

-- valid supplies with the same flow at every ID are equal
pub supplies_same : (m n : ℤ) (s t : List (ℤ × ℤ)) → IsStrictlySortedBy int_cmp (keys_of s)
    → IsStrictlySortedBy int_cmp (keys_of t) → AllByRecursion (IsSupply m) s → AllByRecursion (IsSupply n) t
    → ((q : ℤ) → AlikeAt int_cmp by_flow s t q) → s ≡ t
supplies_same m n s t rs rt some_s some_t e =
    same_entries int_cmp int_cmp_total exact_signed s t rs rt
    (λ q. same_flow (value_of s q) (value_of t q) (λ z. some_flow m q z s some_s) (λ z. some_flow n q z t some_t) (e q))

-- ---- what is found on the contents of two instances

module _ (ls rs : List (ℤ × ℤ)) (lt rt : List ((ℤ × ℤ) × CurveNumbers)) where
  pub supply_on : (id l r : ℤ) → PartAt int_cmp by_flow ls rs id (l, r)
      → IsVerdictOn (OfMin ls lt) (OfMin rs rt) (Verdicts.Supply id l r)
  supply_on id l r d (MinCostFlow s G) (MinCostFlow t H) v w n a b =
      supply_at s t G H id l r n (rw (← a.0, ← b.0) d)
  supply_on id l r d _ _ v w n a b = absurd (search)

  pub min_on : (v : Verdict) → ((q : ℤ) → AlikeAt int_cmp by_flow ls rs q)
      → ((xs ys : List ((ℤ × ℤ) × CostArc))
      → TableLists costs (λ (b : CurveNumbers). listed One b.units b.cost b.steps) lt xs
      → TableLists costs (λ (b : CurveNumbers). listed One b.units b.cost b.steps) rt ys
      → IsPairVerdict costs CurvesDiffer xs ys v) → IsVerdictOn (OfMin ls lt) (OfMin rs rt) v
  min_on v same h (MinCostFlow s G) (MinCostFlow t H) f g n a b =
      let flows : (q : ℤ) → AlikeAt int_cmp by_flow s t q = rw (← a.0, ← b.0) same in
      min_pairs s t G H v (supplies_same G.nodes H.nodes s t f.1.map g.1.map f.1.each g.1.each flows) n
      (h G.arcs H.arcs a.1.lists_them b.1.lists_them)
  min_on v same h _ _ f g n a b = absurd (search)

module _ (a b c d : ℤ) (lt rt : List ((ℤ × ℤ) × Total)) where
  pub max_on : (v : Verdict) → a ≡ c → b ≡ d
      → ((xs ys : List ((ℤ × ℤ) × CapArc)) → TableLists capacities (λ (b : Total). cap_listed b.total) lt xs
      → TableLists capacities (λ (b : Total). cap_listed b.total) rt ys → IsPairVerdict capacities TotalsDiffer xs ys v)
      → IsVerdictOn (OfMax a b lt) (OfMax c d rt) v
  max_on v e f h (MaxFlow s t G) (MaxFlow u w H) p q n x y =
      max_pairs s t u w G H v (sym x.0 ∙ e ∙ y.0) (sym x.1 ∙ f ∙ y.1) n (h G.arcs H.arcs x.2.lists_them y.2.lists_them)
  max_on v e f h _ _ p q n x y = absurd (search)

  pub source_on : a ≢ c → IsVerdictOn (OfMax a b lt) (OfMax c d rt) (Verdicts.Source a c)
  source_on m (MaxFlow s t G) (MaxFlow u w H) p q n x y =
      source_first (MaxFlow s t G) (MaxFlow u w H) refl n (λ id. refl) a c (rw x.0, rw y.0, inner a c m)
  source_on m _ _ p q n x y = absurd (search)

  pub sink_on : a ≡ c → b ≢ d → IsVerdictOn (OfMax a b lt) (OfMax c d rt) (Verdicts.Sink b d)
  sink_on s m (MaxFlow i j G) (MaxFlow u w H) p q n x y =
      sink_first (MaxFlow i j G) (MaxFlow u w H) refl n (λ id. refl) (ap Some (sym x.0 ∙ s ∙ y.0)) b d
      (rw x.1, rw y.1, inner b d m)
  sink_on s m _ _ p q n x y = absurd (search)

pub sp_on : (lt rt : List ((ℤ × ℤ) × Least)) (v : Verdict)
    → ((xs ys : List ((ℤ × ℤ) × LengthArc)) → TableLists lengths (λ (b : Least). length_listed b.length) lt xs
    → TableLists lengths (λ (b : Least). length_listed b.length) rt ys → IsPairVerdict lengths LengthsDiffer xs ys v)
    → IsVerdictOn (OfSp lt) (OfSp rt) v
sp_on lt rt v h (ShortestPaths G) (ShortestPaths H) p q n x y =
    sp_pairs G H v n (h G.arcs H.arcs x.lists_them y.lists_them)
sp_on lt rt v h _ _ p q n x y = absurd (search)

-- ---- lists

-- lists with the same item at every index are equal
pub same_items : {A : Type 0} (xs ys : List A) → ((j : ℕ) → item_at xs j ≡ item_at ys j) → xs ≡ ys
same_items [] [] h = refl
same_items [] (y ∷ ys) h = cc (h 1)
same_items (x ∷ xs) [] h = cc (h 1)
same_items (x ∷ xs) (y ∷ ys) h = cc (h 1, same_items xs ys after)
  where
    after : (j : ℕ) → item_at xs j ≡ item_at ys j
    after zero = refl
    after (suc j) = h (suc (suc j))

lists_first : {A : Type 0} (xs ys : List A) (I J : Instance) → (xs ≡ ys → IsSame I J) → kind_of I ≡ kind_of J
    → nodes_of I ≡ nodes_of J → ((id : ℤ) → flow_of I id ≡ flow_of J id) → source_of I ≡ source_of J
    → sink_of I ≡ sink_of J → ((p : ℤ × ℤ) (how : How) → BundlesDiffer I J p how → ⊥) → count_of I ≡ Some (length xs)
    → count_of J ≡ Some (length ys) → ((i : ℕ) → item_at xs i ≢ item_at ys i → ItemsDiffer I J i)
    → ((i : ℕ) → ItemsDiffer I J i → item_at xs i ≢ item_at ys i) → (v : Verdict) → IsListVerdict xs ys v
    → IsFirstDifference I J v
lists_first xs ys I J same k n f s t b c d there back Verdicts.Same h = same_first I J (same h)
lists_first xs ys I J same k n f s t b c d there back (Verdicts.Length l r) h =
    length_first I J k n f s t b l r (c ∙ ap Some h.0, d ∙ ap Some h.1, inner l r h.2)
lists_first xs ys I J same k n f s t b c d there back (Verdicts.Item i) h =
    item_first I J k n f s t b (c ∙ ap Some h.0 ∙ sym d) i (there i h.1.differ)
    (λ j lt x. back j x (h.1.same_before j (grind (arith, ints))))
lists_first xs ys I J same k n f s t b c d there back _ h = absurd h

pub sources_first : (xs ys : List ℤ) (v : Verdict) → IsListVerdict xs ys v
    → IsFirstDifference (Sources xs) (Sources ys) v
sources_first xs ys =
    lists_first xs ys (Sources xs) (Sources ys) (λ e. e) refl refl (λ id. refl) refl refl (λ p how d. d) refl refl
    (λ i d. d) (λ i d. d)

pub queries_first : (xs ys : List (ℤ × ℤ)) (v : Verdict) → IsListVerdict xs ys v
    → IsFirstDifference (Queries xs) (Queries ys) v
queries_first xs ys =
    lists_first xs ys (Queries xs) (Queries ys) (λ e. e) refl refl (λ id. refl) refl refl (λ p how d. d) refl refl
    (λ i d. d) (λ i d. d)

pub ss_on : (xs ys : List ℤ) (v : Verdict) → IsListVerdict xs ys v → IsVerdictOn (OfSs xs) (OfSs ys) v
ss_on xs ys v h (Sources is) (Sources js) p q n x y = rw (← x, ← y) (sources_first xs ys v h)
ss_on xs ys v h _ _ p q n x y = absurd (search)

pub p2p_on : (xs ys : List (ℤ × ℤ)) (v : Verdict) → IsListVerdict xs ys v → IsVerdictOn (OfP2p xs) (OfP2p ys) v
p2p_on xs ys v h (Queries is) (Queries js) p q n x y = rw (← x, ← y) (queries_first xs ys v h)
p2p_on xs ys v h _ _ p q n x y = absurd (search)

-- ---- points

pub points_first : (xs ys : List (ℤ × (ℤ × ℤ))) (id : ℤ) → PartAt int_cmp by_point xs ys id tt
    → IsFirstDifference (Coordinates xs) (Coordinates ys) (Verdicts.Point id)
points_first xs ys id d =
    point_first (Coordinates xs) (Coordinates ys) refl refl (λ i. refl) refl refl (λ p how d. d) refl id d.differ
    (λ q lt. d.same_before q lt) (λ j d. d)

pub point_on : (xs ys : List (ℤ × (ℤ × ℤ))) (id : ℤ) → PartAt int_cmp by_point xs ys id tt
    → IsVerdictOn (OfCo xs) (OfCo ys) (Verdicts.Point id)
point_on xs ys id d (Coordinates is) (Coordinates js) p q n x y = rw (← x, ← y) (points_first xs ys id d)
point_on xs ys id d _ _ p q n x y = absurd (search)

pub points_on : (xs ys : List (ℤ × (ℤ × ℤ))) → ((q : ℤ) → AlikeAt int_cmp by_point xs ys q)
    → IsVerdictOn (OfCo xs) (OfCo ys) Verdicts.Same
points_on xs ys h (Coordinates is) (Coordinates js) p q n x y =
    same_first (Coordinates is) (Coordinates js)
    (same_entries int_cmp int_cmp_total exact_signed is js p.map q.map (rw (← x, ← y) h))
points_on xs ys h _ _ p q n x y = absurd (search)

-- ---- kinds and nodes

module _ (a b : Parsed) (I J : Instance) (p : IsHeld a I) (q : IsHeld b J) where
  pub kinds_on : {l r : Kind} → l ≡ contents_kind a.contents → r ≡ contents_kind b.contents → l ≢ r
      → IsFirstDifference I J (Verdicts.Kind l r)
  kinds_on e f n =
      let left = e ∙ held_kind a I p in
      let right = f ∙ held_kind b J q in
      rw (left, right) (kind_first I J (λ s. n (left ∙ s ∙ sym right)))

  pub nodes_on : contents_kind a.contents ≡ contents_kind b.contents → {l r : ℤ} → l ≡ a.nodes → r ≡ b.nodes → l ≢ r
      → IsFirstDifference I J (Verdicts.Nodes l r)
  nodes_on k e f n =
      let left = e ∙ p.nodes_are in
      let right = f ∙ q.nodes_are in
      rw (left, right)
      (nodes_first I J (sym (held_kind a I p) ∙ k ∙ held_kind b J q) (λ s. n (left ∙ s ∙ sym right)))

  pub held_on : {c d : Contents} {v : Verdict} → IsVerdictOn c d v → c ≡ a.contents → d ≡ b.contents
      → a.nodes ≡ b.nodes → IsValid I → IsValid J → IsFirstDifference I J v
  held_on h e f n x y =
      h I J x y (sym p.nodes_are ∙ n ∙ q.nodes_are) (rw (← e) at p.shows) (rw (← f) at q.shows)
