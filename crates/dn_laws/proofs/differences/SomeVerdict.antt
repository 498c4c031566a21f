-- Lemmas that valid instances have a first difference.
use Rattle.std.proofs.Common.{◌≡◌, ◌≢◌, ◌⊎◌, inl, inr, ℕ, suc, zero, ◌<◌, ℤ, List, [], ◌∷◌, ◌++◌, length, Bool, false, Option, Some, None, refl, ap, arith}
use Rattle.std.specs.BTreeMap.{is_at}
use Rattle.std.specs.Cmp.{IsTotalOrder}
use Rattle.std.specs.List.{AllByRecursion}
use Rattle.std.specs.Map.{keys_of, lookup}
use Rattle.std.specs.Ordering.{int_cmp}
use Rattle.std.specs.declared.cmp.Ordering.{Ordering}
use Rattle.std.specs.declared.cmp.Ordering.TheVariants.{Less, Equal, Greater}
use Rattle.std.proofs.lemmas.Bool.{both_ways, cases_Bool, cases_eq}
use Rattle.std.proofs.lemmas.Cmp.{int_cmp_total}
use Rattle.std.proofs.lemmas.Map.Lookups.{CmpEqualImpliesEq, exact_signed}
use Rattle.dn_arc_theory.specs.Differences.{CurvesDiffer, LengthsDiffer, TotalsDiffer}
use Rattle.dn_arc_theory.specs.State.Bundles.{ArcDiffer, IsKind}
use Rattle.dn_arc_theory.specs.Kinds.{ArcKind, costs, capacities, lengths}
use Rattle.dn_arc_theory.specs.declared.difference.How.{How}
use Rattle.dn_arc_theory.proofs.CostKindLaws.{cost_kind}
use Rattle.dn_arc_theory.proofs.TotalKindLaws.{total_kind}
use Rattle.dn_arc_theory.proofs.LengthKindLaws.{length_kind}
use Rattle.dn_laws.proofs.bundles.SomeDifference.{same_or_not, same_option_or_not, length_or_differ, total_or_differ, curve_or_differ}
use Rattle.dn_instance.specs.Instances.{Graph, Instance, MinCostFlow, MaxFlow, ShortestPaths, Sources, Queries, Coordinates, kind_of, nodes_of}
use Rattle.dn_arc_theory.specs.Pairs.{bundle, pair_cmp, same_pair}
use Rattle.dn_instance.specs.Validity.{IsPlaced, IsValid, IsValidGraph}
use Rattle.dn_arc_theory.proofs.PairLaws.{pair_is, pair_self, pair_total}
use Rattle.dn_compare.specs.Observed.{value_of, flow_or_zero, item_at}
use Rattle.dn_compare.specs.FirstDifference.{IsFirstDifference}
use Rattle.dn_compare.specs.State.Partings.{IsPairVerdict, ItemsPartAt, IsListVerdict}
use Rattle.dn_instance.specs.declared.verdict.Verdict.{Verdict}
use Rattle.dn_instance.specs.declared.verdict.Verdict.TheVariants as Verdicts
use Rattle.dn_compare.proofs.PeekedLaws.{key_is, same_entries}
use Rattle.dn_compare.proofs.ArcPartings.{exact_pair}
use Rattle.dn_canon.proofs.OrderLaws.{all_at_pair}
use Rattle.dn_compare.proofs.VerdictLaws.{same_first}
use Rattle.dn_compare.proofs.FirstLaws.{kind_first, nodes_first, source_first, sink_first}
use Rattle.dn_compare.proofs.HeldVerdicts.{inner, supply_at, supplies_same, min_pairs, max_pairs, sp_pairs, sources_first, queries_first, points_first}

-- ---- the least of the keys at which something differs

-- no key passes the test
abbrev pub IsApart : {K : Type 0} → (K → Bool) → List K → Type 0
IsApart test ks = AllByRecursion (λ k. test k ≡ false) ks

apart_both : {K : Type 0} (test : K → Bool) (ks ls : List K) → IsApart test (ks ++ ls)
    → IsApart test ks × IsApart test ls
apart_both test [] ls h = (tt, h)
apart_both test (k ∷ ks) ls h = let both = apart_both test ks ls h.1 in ((h.0, both.0), both.1)

less_or_not : (o : Ordering) → (o ≡ Less) ⊎ (o ≢ Less)
less_or_not Less = inl refl
less_or_not Equal = inr (λ e. cc)
less_or_not Greater = inr (λ e. cc)

module _ {K : Type 0} (cmp : K → K → Ordering) (total : IsTotalOrder cmp) (exact : CmpEqualImpliesEq cmp) where
  -- what holds at some keys and at all others holds at every key
  pub everywhere : (P : K → Type 0) (q : K) (ks : List K) → AllByRecursion P ks → (IsApart (is_at (cmp q)) ks → P q)
      → P q
  everywhere P q [] all apart = apart tt
  everywhere P q (k ∷ ks) all apart = elim (cases_Bool (is_at (cmp q) k)) [
    | inl e ↦ rw (key_is cmp total exact q k e) (all.0)
    | inr e ↦ everywhere P q ks all.1 (λ h. apart (e, h))
  ]

  -- if nothing differs outside of some keys, nothing differs at all, or there is a least key with a difference
  least : (Alike Apart : K → Type 0) → ((k : K) → Alike k ⊎ Apart k) → (ks : List K)
      → ((q : K) → IsApart (is_at (cmp q)) ks → Alike q)
      → ((q : K) → Alike q) ⊎ ((k : K) × Apart k × ((q : K) → cmp q k ≡ Less → Alike q))
  least Alike Apart decide [] outside = inl (λ q. outside q tt)
  least Alike Apart decide (k ∷ ks) outside = elim (decide k) [
    | inl a ↦ least Alike Apart decide ks (λ q h. everywhere Alike q (k ∷ []) (a, tt) (λ e. outside q (e.0, h)))
    | inr a ↦ elim (least (λ q. cmp q k ≡ Less → Alike q) (λ q. Apart q × (cmp q k ≡ Less)) below ks
        (λ q h lt. outside q (rw lt refl, h))) [
          | inl all ↦ inr (k, a, all)
          | inr l ↦ inr (l.0, l.1.0, λ q lt. l.2 q lt (total.trans q l.0 k lt l.1.1))
        ]
  ]
    where
      below : (q : K) → (cmp q k ≡ Less → Alike q) ⊎ (Apart q × (cmp q k ≡ Less))
      below q = elim (decide q) [
        | inl a ↦ inl (λ lt. a)
        | inr a ↦ elim (less_or_not (cmp q k)) [ inl lt ↦ inr (a, lt) | inr n ↦ inl (λ lt. absurd (n lt)) ]
      ]

-- ---- graphs

-- a pair that no arc has has no arcs
pub bundle_apart : {Arc : Type 0} (p : ℤ × ℤ) (arcs : List ((ℤ × ℤ) × Arc)) → IsApart (same_pair p) (keys_of arcs)
    → bundle p arcs ≡ []
bundle_apart p [] h = refl
bundle_apart p (a ∷ arcs) h = rw (h.0) (bundle_apart p arcs h.1)

-- at a pair that no arc has, neither list has arcs
pub same_outside : {Arc : Type 0} (kind : ArcKind Arc) (laws : IsKind kind) (xs ys : List ((ℤ × ℤ) × Arc)) (p : ℤ × ℤ)
    → IsApart (same_pair p) (keys_of xs ++ keys_of ys) → kind.Same (bundle p xs) (bundle p ys)
same_outside kind laws xs ys p h =
    let both = apart_both (same_pair p) (keys_of xs) (keys_of ys) h in
    rw (bundle_apart p xs both.0, bundle_apart p ys both.1) (laws.meaning.same_refl [])

some_pair : {Arc : Type 0} (kind : ArcKind Arc) (Differ : ArcDiffer Arc) (laws : IsKind kind)
    → ((xs ys : List Arc) → AllByRecursion kind.IsArc xs → AllByRecursion kind.IsArc ys
    → kind.Same xs ys ⊎ ((how : How) × Differ xs ys how))
    → (G H : Graph Arc) → IsValidGraph kind G → IsValidGraph kind H
    → (v : Verdict) × IsPairVerdict kind Differ G.arcs H.arcs v
some_pair kind Differ laws decide G H g h =
    let are : (n : ℤ) (p : ℤ × ℤ) (arcs : List _) → AllByRecursion (IsPlaced kind n) arcs
    → AllByRecursion kind.IsArc (bundle p arcs) =
    λ n. all_at_pair (IsPlaced kind n) kind.IsArc (λ a x. x.is_arc) in
    elim (least pair_cmp pair_total exact_pair (λ p. kind.Same (bundle p G.arcs) (bundle p H.arcs))
    (λ p. (how : How) × Differ (bundle p G.arcs) (bundle p H.arcs) how)
    (λ p. decide (bundle p G.arcs) (bundle p H.arcs) (are G.nodes p G.arcs g.placed) (are H.nodes p H.arcs h.placed))
    (keys_of G.arcs ++ keys_of H.arcs) (same_outside kind laws G.arcs H.arcs)) [
      | inl all ↦ (Verdicts.Same, all)
      | inr l ↦ (Verdicts.Pair l.0.0 l.0.1 l.1.0, record { differ = l.1.1; same_before = l.2 })
    ]

-- ---- maps

-- a key that no entry has has no value
pub lookup_apart : {K X : Type 0} (test : K → Bool) (es : List (K × X)) → IsApart test (keys_of es)
    → lookup test es ≡ None
lookup_apart test [] h = refl
lookup_apart test (e ∷ es) h = rw (h.0) (lookup_apart test es h.1)

-- at an ID that no entry has, neither list has a value
pub alike_outside : {X : Type 0} (es fs : List (ℤ × X)) (P : Option X → Option X → Type 0) → P None None → (q : ℤ)
    → IsApart (is_at (int_cmp q)) (keys_of es ++ keys_of fs) → P (value_of es q) (value_of fs q)
alike_outside es fs P nothing q h =
    let both = apart_both (is_at (int_cmp q)) (keys_of es) (keys_of fs) h in
    rw (lookup_apart _ es both.0, lookup_apart _ fs both.1) nothing

-- two maps have the same value at every ID, or there is a least ID at which they differ
least_id : {X : Type 0} (es fs : List (ℤ × X)) (P Q : Option X → Option X → Type 0) → ((a b : Option X) → P a b ⊎ Q a b)
    → P None None
    → ((q : ℤ) → P (value_of es q) (value_of fs q)) ⊎
    ((k : ℤ) × Q (value_of es k) (value_of fs k)
    × ((q : ℤ) → int_cmp q k ≡ Less → P (value_of es q) (value_of fs q)))
least_id es fs P Q decide nothing =
    least int_cmp int_cmp_total exact_signed (λ q. P (value_of es q) (value_of fs q))
    (λ q. Q (value_of es q) (value_of fs q)) (λ q. decide (value_of es q) (value_of fs q))
    (keys_of es ++ keys_of fs)
    (alike_outside es fs P nothing)

same_pair_or_not : (a b : ℤ × ℤ) → (a ≡ b) ⊎ (a ≢ b)
same_pair_or_not a b = elim (cases_Bool (same_pair a b)) [
  | inl e ↦ inl (pair_is a b e)
  | inr e ↦ inr (λ h. both_ways _ e (rw h (pair_self b)))
]

-- ---- lists

pub later_place : {A : Type 0} (x y : A) (xs ys : List A) (i : ℕ) → x ≡ y → ItemsPartAt xs ys i
    → ItemsPartAt (x ∷ xs) (y ∷ ys) (suc i)
later_place x y xs ys zero e d = absurd (d.differ refl)
later_place x y xs ys (suc i) e d = record { differ = d.differ; same_before = before }
  where
    before : (j : ℕ) → j < suc (suc i) → item_at (x ∷ xs) j ≡ item_at (y ∷ ys) j
    before zero lt = refl
    before (suc zero) lt = ap Some e
    before (suc (suc j)) lt = d.same_before (suc j) (omega (arith, lt))

pub first_place : {A : Type 0} (x y : A) (xs ys : List A) → x ≢ y → ItemsPartAt (x ∷ xs) (y ∷ ys) 1
first_place x y xs ys n = record { differ = inner x y n; same_before = before }
  where
    before : (j : ℕ) → j < 1 → item_at (x ∷ xs) j ≡ item_at (y ∷ ys) j
    before zero lt = refl
    before (suc j) lt = absurd (omega (arith, lt))

some_place : {A : Type 0} (xs ys : List A) → ((a b : A) → (a ≡ b) ⊎ (a ≢ b)) → length xs ≡ length ys
    → (xs ≡ ys) ⊎ ((i : ℕ) × ItemsPartAt xs ys i)
some_place [] [] decide e = inl refl
some_place [] (y ∷ ys) decide e = cc
some_place (x ∷ xs) [] decide e = cc
some_place (x ∷ xs) (y ∷ ys) decide e = elim (decide x y) [
  | inl same ↦ elim (some_place xs ys decide cc) [
    | inl rest ↦ inl cc
    | inr p ↦ inr (suc p.0, later_place x y xs ys p.0 same p.1)
  ]
  | inr n ↦ inr (1, first_place x y xs ys n)
]

some_list : {A : Type 0} (xs ys : List A) → ((a b : A) → (a ≡ b) ⊎ (a ≢ b)) → (v : Verdict) × IsListVerdict xs ys v
some_list xs ys decide = elim (cases_eq (length xs) (length ys)) [
  | inl e ↦ elim (some_place xs ys decide e) [
    | inl same ↦ (Verdicts.Same, same)
    | inr p ↦ (Verdicts.Item p.0, (e, p.1))
  ]
  | inr n ↦ (Verdicts.Length (length xs) (length ys), (refl, refl, n))
]

-- ---- instances

abbrev AnyVerdict : Instance → Instance → Type 0
AnyVerdict I J = (v : Verdict) × IsFirstDifference I J v

-- the numbers of nodes differ, or the remaining values decide
by_nodes : (I J : Instance) → kind_of I ≡ kind_of J → (nodes_of I ≡ nodes_of J → AnyVerdict I J) → AnyVerdict I J
by_nodes I J k f = elim (same_or_not (nodes_of I) (nodes_of J)) [ inl e ↦ f e | inr n ↦ (_, nodes_first I J k n) ]

some_min : (s t : List (ℤ × ℤ)) (G H : Graph _) → IsValid (MinCostFlow s G) → IsValid (MinCostFlow t H)
    → G.nodes ≡ H.nodes → AnyVerdict (MinCostFlow s G) (MinCostFlow t H)
some_min s t G H g h n =
    elim (least_id s t (λ a b. flow_or_zero a ≡ flow_or_zero b) (λ a b. flow_or_zero a ≢ flow_or_zero b)
    (λ a b. same_or_not (flow_or_zero a) (flow_or_zero b)) refl) [
      | inl all ↦
          (let p = some_pair costs CurvesDiffer cost_kind curve_or_differ G H g.0 h.0 in
          (p.0, min_pairs s t G H p.0 (supplies_same G.nodes H.nodes s t g.1.map h.1.map g.1.each h.1.each all) n p.1))
      | inr l ↦ (_, supply_at s t G H l.0 _ _ n (record { differ = (refl, refl, l.1); same_before = l.2 }))
    ]

some_max : (a b c d : ℤ) (G H : Graph _) → IsValid (MaxFlow a b G) → IsValid (MaxFlow c d H) → G.nodes ≡ H.nodes
    → AnyVerdict (MaxFlow a b G) (MaxFlow c d H)
some_max a b c d G H g h n = elim (same_or_not a c) [
  | inl e ↦ elim (same_or_not b d) [
    | inl f ↦
        (let p = some_pair capacities TotalsDiffer total_kind (λ xs ys x y. total_or_differ xs ys) G H g.0 h.0 in
        (p.0, max_pairs a b c d G H p.0 e f n p.1))
    | inr m ↦ (_, sink_first (MaxFlow a b G) _ refl n (λ id. refl) (ap Some e) b d (refl, refl, inner b d m))
  ]
  | inr m ↦ (_, source_first (MaxFlow a b G) _ refl n (λ id. refl) a c (refl, refl, inner a c m))
]

some_sp : (G H : Graph _) → IsValid (ShortestPaths G) → IsValid (ShortestPaths H) → G.nodes ≡ H.nodes
    → AnyVerdict (ShortestPaths G) (ShortestPaths H)
some_sp G H g h n =
    let p = some_pair lengths LengthsDiffer length_kind (λ xs ys x y. length_or_differ xs ys) G H g h in
    (p.0, sp_pairs G H p.0 n p.1)

some_points : (xs ys : List (ℤ × (ℤ × ℤ))) → IsValid (Coordinates xs) → IsValid (Coordinates ys)
    → AnyVerdict (Coordinates xs) (Coordinates ys)
some_points xs ys g h =
    elim (least_id xs ys (λ a b. a ≡ b) (λ a b. a ≢ b) (same_option_or_not same_pair_or_not) refl) [
      | inl all ↦
          (_, same_first (Coordinates xs) _ (same_entries int_cmp int_cmp_total exact_signed xs ys g.map h.map all))
      | inr l ↦ (_, points_first xs ys l.0 (record { differ = l.1; same_before = l.2 }))
    ]

pub some_first : (I J : Instance) → IsValid I → IsValid J → AnyVerdict I J
some_first (MinCostFlow s G) (MinCostFlow t H) g h = by_nodes _ _ refl (some_min s t G H g h)
some_first (MaxFlow a b G) (MaxFlow c d H) g h = by_nodes _ _ refl (some_max a b c d G H g h)
some_first (ShortestPaths G) (ShortestPaths H) g h = by_nodes _ _ refl (some_sp G H g h)
some_first (Sources xs) (Sources ys) g h = let p = some_list xs ys same_or_not in (p.0, sources_first xs ys p.0 p.1)
some_first (Queries xs) (Queries ys) g h =
    let p = some_list xs ys same_pair_or_not in (p.0, queries_first xs ys p.0 p.1)
some_first (Coordinates xs) (Coordinates ys) g h = some_points xs ys g h
some_first I J g h = (Verdicts.Kind (kind_of I) (kind_of J), kind_first I J (λ e. cc))
