-- A table keeps as many entries as the arcs of a graph make.
use Rattle.std.proofs.Common.{inl, inr, ◌≡◌, ℕ, ◌+◌, ◌*◌, ◌<◌, ◌≤◌, ℤ, pos, int_lt, filter, List, [], ◌∷◌, ◌++◌, length, append-nil, map, Bool, true, false, cond, ◌||◌, Some, None, refl, sym, ap, ◌∙◌, subst, arith, sum_by, int_eq}
use Rattle.std.proofs.lemmas.Bool.{cases_Bool}
use Rattle.std.proofs.lemmas.List.Sums.{sum_by-cons}
use Rattle.std.proofs.Math.Bool.{or-true}
use Rattle.std.proofs.lemmas.Map.Keys.{IsDistinct-head, IsDistinct-tail}
use Rattle.std.specs.List.{AllByRecursion, list_any, IsDistinct}
use Rattle.std.specs.Map.{keys_of, lookup}
use Rattle.dn_arc_theory.specs.State.Bundles.{AreSizes, IsKind, listed_of}
use Rattle.dn_arc_theory.specs.Canonical.{has_low}
use Rattle.dn_arc_theory.specs.Capacities.{total_cap}
use Rattle.dn_arc_theory.specs.Entries.{distinct, has_room, length_entries, cap_entries, cost_entries}
use Rattle.dn_arc_theory.specs.State.Sizes.{ArcSizes}
use Rattle.dn_arc_theory.specs.declared.arc.LengthArc.{LengthArc}
use Rattle.dn_arc_theory.specs.declared.arc.CapArc.{CapArc}
use Rattle.dn_arc_theory.specs.declared.arc.CostArc.{CostArc}
use Rattle.dn_arc_theory.specs.Kinds.{ArcKind}
use Rattle.dn_arc_theory.specs.declared.arc.Form.TheVariants.{One}
use Rattle.dn_table.specs.GraphEntries.{graph_entries}
use Rattle.dn_arc_theory.specs.Pairs.{bundle, same_pair}
use Rattle.dn_table.specs.State.Tables.{listed_at, TableLists, AreArcs}
use Rattle.std.proofs.lemmas.List.{map-append}
use Rattle.dn_arc_theory.proofs.PairLaws.{pair_is, pair_self, bundle_push}
use Rattle.dn_table.proofs.PairLaws.{other_pair}

abbrev pub Pair : Type 0
Pair = ℤ × ℤ

-- whether the pair is in the list
abbrev pub among : Pair → List Pair → Bool
among p ps = list_any (same_pair p) ps

-- no pair occurs twice
abbrev pub Once : List Pair → Type 0
Once [] = Unit {0}
Once (p ∷ ps) = (among p ps ≡ false) × Once ps

-- the list without this pair
abbrev without : Pair → List Pair → List Pair
without p [] = []
without p (q ∷ qs) = cond (same_pair p q) (without p qs) (q ∷ without p qs)

not_self : (p : Pair) (qs : List Pair) → among p (without p qs) ≡ false
not_self p [] = refl
not_self p (q ∷ qs) =
    elim (cases_Bool (same_pair p q)) [ inl e ↦ rw e (not_self p qs) | inr e ↦ rw (e, e) (not_self p qs) ]

others_stay : (p r : Pair) (qs : List Pair) → same_pair r p ≡ false → among r (without p qs) ≡ among r qs
others_stay p r [] n = refl
others_stay p r (q ∷ qs) n = elim (cases_Bool (same_pair p q)) [
  | inl e ↦ rw (e, ← pair_is p q e, n) (others_stay p r qs n)
  | inr e ↦ rw (e, others_stay p r qs n)
]

once_without : (p : Pair) (qs : List Pair) → Once qs → Once (without p qs)
once_without p [] o = tt
once_without p (q ∷ qs) o = elim (cases_Bool (same_pair p q)) [
  | inl e ↦ rw e (once_without p qs o.1)
  | inr e ↦ rw e (others_stay p q qs (other_pair p q e) ∙ o.0, once_without p qs o.1)
]

module _ (f : Pair → ℕ) where
  sum_without : (p : Pair) (qs : List Pair) → Once qs
      → sum_by f qs ≡ cond (among p qs) (f p) 0 + sum_by f (without p qs)
  sum_without p [] o = refl
  sum_without p (q ∷ qs) o = elim (cases_Bool (same_pair p q)) [
    | inl e ↦
        let none : among p qs ≡ false = rw (pair_is p q e) o.0 in
        let rest = rw none at (sum_without p qs o.1) in
        rw e (omega (arith, sum_by-cons f q qs, rest, ap f (pair_is p q e)))
    | inr e ↦ rw e
        (omega (arith, sum_by-cons f q (without p qs), sum_by-cons f q qs, sum_without p qs o.1))
  ]

  all_none : (qs : List Pair) → ((r : Pair) → among r qs ≡ true → f r ≡ 0) → sum_by f qs ≡ 0
  all_none [] h = refl
  all_none (q ∷ qs) h =
      let rest = all_none qs (λ r e. h r (rw e (or-true (same_pair r q)))) in
      omega (arith, sum_by-cons f q qs, h q (rw (pair_self q)), rest)

  -- sums over two lists without repeats are equal if each pair in only one of them adds nothing
  same_sum : (ps qs : List Pair) → Once ps → Once qs → ((r : Pair) → among r ps ≡ false → among r qs ≡ true → f r ≡ 0)
      → ((r : Pair) → among r ps ≡ true → among r qs ≡ false → f r ≡ 0) → sum_by f ps ≡ sum_by f qs
  same_sum [] qs op oq out back = sym (all_none qs (λ r e. out r refl e))
  same_sum (p ∷ ps) qs op oq out back =
      let rest = same_sum ps (without p qs) op.1 (once_without p qs oq) out_rest back_rest in
      omega (arith, sum_by-cons f p ps, sum_without p qs oq, rest, here)
    where
      here : cond (among p qs) (f p) 0 ≡ f p
      here =
          elim (cases_Bool (among p qs)) [ inl e ↦ rw e | inr e ↦ rw e (sym (back p (rw (pair_self p)) e)) ]

      out_rest : (r : Pair) → among r ps ≡ false → among r (without p qs) ≡ true → f r ≡ 0
      out_rest r g h = elim (cases_Bool (same_pair r p)) [
        | inl s ↦ cc (rw (pair_is r p s, not_self) at h)
        | inr s ↦ out r (rw (s, g)) (sym (others_stay p r qs s) ∙ h)
      ]

      back_rest : (r : Pair) → among r ps ≡ true → among r (without p qs) ≡ false → f r ≡ 0
      back_rest r g h = elim (cases_Bool (same_pair r p)) [
        | inl s ↦ cc (rw (pair_is r p s, op.0) at g)
        | inr s ↦ back r (rw g (or-true (same_pair r p))) (sym (others_stay p r qs s) ∙ h)
      ]

among_distinct : (r : Pair) (ps : List Pair) → among r (distinct same_pair ps) ≡ among r ps
among_distinct r [] = refl
among_distinct r (p ∷ ps) = elim (cases_Bool (among p ps)) [
  | inl e ↦ rw (e, among_distinct r ps)
      (elim (cases_Bool (same_pair r p)) [ inl s ↦ rw (s, pair_is r p s) e | inr s ↦ rw s ])
  | inr e ↦ rw (e, among_distinct r ps)
]

once_distinct : (ps : List Pair) → Once (distinct same_pair ps)
once_distinct [] = tt
once_distinct (p ∷ ps) = elim (cases_Bool (among p ps)) [
  | inl e ↦ rw e (once_distinct ps)
  | inr e ↦ rw e (among_distinct p ps ∙ e, once_distinct ps)
]

none_alike : (k : Pair) (ks : List Pair) → AllByRecursion (λ y. same_pair k y ≡ false) ks → among k ks ≡ false
none_alike k [] h = refl
none_alike k (y ∷ ys) h = rw h.0 (none_alike k ys h.1)

-- a list of different pairs has no repeats
pub once_apart : (ks : List Pair) → IsDistinct same_pair ks → Once ks
once_apart [] s = tt
once_apart (k ∷ ks) s =
    (none_alike k ks (IsDistinct-head same_pair k ks s), once_apart ks (IsDistinct-tail same_pair k ks s))

module _ {Arc : Type 0} where
  no_bundle : (r : Pair) (arcs : List (Pair × Arc)) → among r (map (λ a. a.0) arcs) ≡ false → bundle r arcs ≡ []
  no_bundle r [] e = refl
  no_bundle r (a ∷ rest) e = elim (cases_Bool (same_pair r a.0)) [
    | inl t ↦ cc (rw t at e)
    | inr t ↦ rw t (no_bundle r rest (rw t at e))
  ]

  pub bundle_arcs : (P : Arc → Type 0) (r : Pair) (arcs : List (Pair × Arc)) → AllByRecursion (λ a. P a.1) arcs
      → AllByRecursion P (bundle r arcs)
  bundle_arcs P r [] h = tt
  bundle_arcs P r (a ∷ rest) h = elim (cases_Bool (same_pair r a.0)) [
    | inl t ↦ rw t (h.0, bundle_arcs P r rest h.1)
    | inr t ↦ rw t (bundle_arcs P r rest h.1)
  ]

module _ {B : Type 0} where
  no_entry : (r : Pair) (table : List (Pair × B)) → among r (keys_of table) ≡ false → lookup (same_pair r) table ≡ None
  no_entry r [] e = refl
  no_entry r (x ∷ rest) e = elim (cases_Bool (same_pair r x.0)) [
    | inl t ↦ cc (rw t at e)
    | inr t ↦ rw t (no_entry r rest (rw t at e))
  ]

  -- a sum over the bundles is a sum over their pairs
  sum_at : (f : Pair → ℕ) (g : B → ℕ) (table rest : List (Pair × B))
      → ((k : Pair) → among k (keys_of rest) ≡ true → lookup (same_pair k) rest ≡ lookup (same_pair k) table)
      → Once (keys_of rest)
      → ((k : Pair) (b : B) → lookup (same_pair k) table ≡ Some b → g b ≡ f k)
      → sum_by (λ (e : Pair × B). g e.1) rest ≡ sum_by f (keys_of rest)
  sum_at f g table [] at s h = refl
  sum_at f g table (e ∷ rest) at s h =
      let more = sum_at f g table rest below s.1 h in
      let here = h e.0 e.1 (sym (at e.0 (rw (pair_self e.0))) ∙ rw (pair_self e.0)) in
      omega (arith, sum_by-cons (λ (x : Pair × B). g x.1) e rest, sum_by-cons f e.0 (keys_of rest), more, here)
    where
      below : (k : Pair) → among k (keys_of rest) ≡ true → lookup (same_pair k) rest ≡ lookup (same_pair k) table
      below k m = elim (cases_Bool (same_pair k e.0)) [
        | inl q ↦ cc (rw (pair_is k e.0 q, s.0) at m)
        | inr q ↦ rw q at (at k (rw (q, m)))
      ]

module _ {B Arc : Type 0} (kind : ArcKind Arc) (sizes : ArcSizes Arc) (laws : IsKind kind)
    (sized : AreSizes kind sizes) (lists : B → List Arc) where
  -- the bundles of a table make as many entries as the arcs that the table represents
  pub table_entries : (table : List (Pair × B)) (arcs : List (Pair × Arc)) → Once (keys_of table)
      → TableLists kind lists table arcs → AreArcs kind arcs
      → sum_by (λ (e : Pair × B). sizes.entries (lists e.1)) table ≡ graph_entries sizes.entries arcs
  table_entries table arcs once t are =
      sum_at f (λ b. sizes.entries (lists b)) table table (λ k m. refl) once at
      ∙ same_sum f (keys_of table) (distinct same_pair (map (λ a. a.0) arcs)) once
      (once_distinct (map (λ a. a.0) arcs)) out back
    where
      f : Pair → ℕ
      f p = sizes.entries (bundle p arcs)

      arcs_at : (p : Pair) → AllByRecursion kind.IsArc (bundle p arcs)
      arcs_at p = bundle_arcs kind.IsArc p arcs are

      at : (k : Pair) (b : B) → lookup (same_pair k) table ≡ Some b
          → sizes.entries (lists b) ≡ sizes.entries (bundle k arcs)
      at k b e =
          let stands = t.stands k in
          ap (λ o. sizes.entries (listed_of lists o)) (sym e)
          ∙ sized.same_entries (listed_at lists table k) (bundle k arcs)
          (laws.canon_arcs One (listed_at lists table k) stands.canonical) (arcs_at k) stands.same

      out : (r : Pair) → among r (keys_of table) ≡ false → among r (distinct same_pair (map (λ a. a.0) arcs)) ≡ true
          → f r ≡ 0
      out r e g =
          sized.same_entries (bundle r arcs) [] (arcs_at r) tt ((t.absent r).0 (no_entry r table e))
          ∙ sized.none_entries

      back : (r : Pair) → among r (keys_of table) ≡ true → among r (distinct same_pair (map (λ a. a.0) arcs)) ≡ false
          → f r ≡ 0
      back r e g =
          ap sizes.entries (no_bundle r arcs (sym (among_distinct r (map (λ a. a.0) arcs)) ∙ g)) ∙ sized.none_entries

among_push : (r q : Pair) (ps : List Pair) → among r (ps ++ q ∷ []) ≡ (among r ps || same_pair r q)
among_push r q [] = elim (cases_Bool (same_pair r q)) [ inl t ↦ rw t | inr t ↦ rw t ]
among_push r q (p ∷ ps) = elim (cases_Bool (same_pair r p)) [ inl t ↦ rw t | inr t ↦ rw t (among_push r q ps) ]

module _ (f g : Pair → ℕ) (each : (p : Pair) → f p ≤ g p) where
  sum_grows : (ps : List Pair) → sum_by f ps ≤ sum_by g ps
  sum_grows [] = omega arith
  sum_grows (p ∷ ps) = omega (arith, sum_by-cons f p ps, sum_by-cons g p ps, each p, sum_grows ps)

  -- a sum is greater if a number of one of its pairs is
  sum_more : (q : Pair) (ps : List Pair) → among q ps ≡ true → f q < g q → sum_by f ps < sum_by g ps
  sum_more q [] m h = cc
  sum_more q (p ∷ ps) m h = elim (cases_Bool (same_pair q p)) [
    | inl e ↦ omega (arith, sum_by-cons f p ps, sum_by-cons g p ps, rw (pair_is q p e) at h, sum_grows ps)
    | inr e ↦ omega (arith, sum_by-cons f p ps, sum_by-cons g p ps, each p, sum_more q ps (rw e at m) h)
  ]

module _ {Arc : Type 0} (sizes : ArcSizes Arc) (none_entries : sizes.entries [] ≡ 0) (arcs : List (Pair × Arc))
    (a : Pair × Arc) where
  abbrev more : List (Pair × Arc)
  more = arcs ++ a ∷ []

  abbrev keys : List (Pair × Arc) → List Pair
  keys xs = map (λ (x : Pair × Arc). x.0) xs

  here : bundle a.0 more ≡ bundle a.0 arcs ++ a.1 ∷ []
  here = rw (bundle_push a.0 arcs a, pair_self a.0)

  there : (p : Pair) → same_pair p a.0 ≡ false → bundle p more ≡ bundle p arcs
  there p e = rw (bundle_push p arcs a, e, append-nil)

  among_more : (r : Pair) → among r (keys more) ≡ (among r (keys arcs) || same_pair r a.0)
  among_more r = ap (among r) (map-append (λ (x : Pair × Arc). x.0) arcs (a ∷ [])) ∙ among_push r a.0 (keys arcs)

  among_these : among a.0 (distinct same_pair (keys more)) ≡ true
  among_these = among_distinct a.0 (keys more) ∙ among_more a.0 ∙ rw (pair_self a.0) (or-true (among a.0 (keys arcs)))

  -- with one more arc that makes more entries of its pair, a graph makes more entries
  pub graph_grows : sizes.entries (bundle a.0 arcs) < sizes.entries (bundle a.0 arcs ++ a.1 ∷ [])
      → graph_entries sizes.entries arcs < graph_entries sizes.entries more
  graph_grows h =
      let same =
      same_sum f (distinct same_pair (keys more)) (distinct same_pair (keys arcs)) (once_distinct (keys more))
      (once_distinct (keys arcs)) out back in
      let grows = sum_more f g each a.0 (distinct same_pair (keys more)) among_these (each_here h) in
      omega (arith, same, grows)
    where
      f : Pair → ℕ
      f p = sizes.entries (bundle p arcs)

      g : Pair → ℕ
      g p = sizes.entries (bundle p more)

      each_here : sizes.entries (bundle a.0 arcs) < sizes.entries (bundle a.0 arcs ++ a.1 ∷ []) → f a.0 < g a.0
      each_here h = subst (λ l. sizes.entries (bundle a.0 arcs) < sizes.entries l) (sym here) h

      each : (p : Pair) → f p ≤ g p
      each p = elim (cases_Bool (same_pair p a.0)) [
        | inl e ↦ subst (λ q. f q ≤ g q) (sym (pair_is p a.0 e)) (omega (arith, each_here h))
        | inr e ↦ omega (arith, ap sizes.entries (there p e))
      ]

      out : (r : Pair) → among r (distinct same_pair (keys more)) ≡ false
          → among r (distinct same_pair (keys arcs)) ≡ true → f r ≡ 0
      out r e m =
          let no = sym (among_distinct r (keys more) ∙ among_more r) ∙ e in
          let yes = sym (among_distinct r (keys arcs)) ∙ m in
          cc (rw yes at no)

      back : (r : Pair) → among r (distinct same_pair (keys more)) ≡ true
          → among r (distinct same_pair (keys arcs)) ≡ false → f r ≡ 0
      back r e m = ap sizes.entries (no_bundle r arcs (sym (among_distinct r (keys arcs)) ∙ m)) ∙ none_entries

-- 1 if both are the same pair, and 0 otherwise
abbrev one_if : Pair → Pair → ℕ
one_if q p = cond (same_pair p q) 1 0

none_at : (q : Pair) (ps : List Pair) → among q ps ≡ false → sum_by (one_if q) ps ≡ 0
none_at q [] e = refl
none_at q (p ∷ ps) e = elim (cases_Bool (same_pair q p)) [
  | inl f ↦ cc (rw f at e)
  | inr f ↦
      let head : one_if q p ≡ 0 = rw (other_pair q p f) in
      omega (arith, sum_by-cons (one_if q) p ps, none_at q ps (rw f at e))
]

one_at : (q : Pair) (ps : List Pair) → Once ps → sum_by (one_if q) ps ≤ 1
one_at q [] o = omega arith
one_at q (p ∷ ps) o = elim (cases_Bool (same_pair p q)) [
  | inl e ↦
      let head : one_if q p ≡ 1 = rw e in
      omega (arith, sum_by-cons (one_if q) p ps, none_at q ps (rw (← pair_is p q e) o.0))
  | inr e ↦
      let head : one_if q p ≡ 0 = rw e in
      omega (arith, sum_by-cons (one_if q) p ps, one_at q ps o.1)
]

module _ {Arc : Type 0} where
  split_sum : (a : Pair × Arc) (rest : List (Pair × Arc)) (ps : List Pair)
      → sum_by (λ p. length (bundle p (a ∷ rest))) ps ≡ sum_by (one_if a.0) ps + sum_by (λ p. length (bundle p rest)) ps
  split_sum a rest [] = refl
  split_sum a rest (p ∷ ps) =
      let whole = sum_by-cons (λ x. length (bundle x (a ∷ rest))) p ps in
      let one = sum_by-cons (one_if a.0) p ps in
      let two = sum_by-cons (λ x. length (bundle x rest)) p ps in
      let head : length (bundle p (a ∷ rest)) ≡ one_if a.0 p + length (bundle p rest) =
      elim (cases_Bool (same_pair p a.0)) [ inl t ↦ rw t (omega arith) | inr t ↦ rw t (omega arith) ] in
      omega (arith, split_sum a rest ps)

  no_sum : (arcs : List (Pair × Arc)) (ps : List Pair) → arcs ≡ [] → sum_by (λ p. length (bundle p arcs)) ps ≡ 0
  no_sum arcs [] e = refl
  no_sum arcs (p ∷ ps) e =
      let whole = sum_by-cons (λ x. length (bundle x arcs)) p ps in
      let more = no_sum arcs ps e in
      let head : length (bundle p arcs) ≡ 0 = ap (λ l. length (bundle p l)) e in
      omega arith

  -- each arc is in at most one bundle
  bundles_few : (arcs : List (Pair × Arc)) (ps : List Pair) → Once ps
      → sum_by (λ p. length (bundle p arcs)) ps ≤ length arcs
  bundles_few [] ps o = omega (arith, no_sum [] ps refl)
  bundles_few (a ∷ rest) ps o = let split = split_sum a rest ps in let one = one_at a.0 ps o in
      omega (arith, bundles_few rest ps o)

  module _ (entries : List Arc → ℕ) (bound : (xs : List Arc) → entries xs ≤ 2 * length xs) where
    each_few : (arcs : List (Pair × Arc)) (ps : List Pair)
        → sum_by (λ p. entries (bundle p arcs)) ps ≤ 2 * sum_by (λ p. length (bundle p arcs)) ps
    each_few arcs [] = omega arith
    each_few arcs (p ∷ ps) =
        let one = sum_by-cons (λ x. entries (bundle x arcs)) p ps in
        let two = sum_by-cons (λ x. length (bundle x arcs)) p ps in
        let head = bound (bundle p arcs) in
        omega (arith, each_few arcs ps)

    -- the entries are at most two for each arc
    pub graph_few : (arcs : List (Pair × Arc)) → graph_entries entries arcs ≤ 2 * length arcs
    graph_few arcs =
        let ps = distinct same_pair (map (λ (a : Pair × Arc). a.0) arcs) in
        let each = each_few arcs ps in
        omega (arith, bundles_few arcs ps (once_distinct (map (λ a. a.0) arcs)))

pub lengths_few : (xs : List LengthArc) → length_entries xs ≤ 2 * length xs
lengths_few [] = omega arith
lengths_few (a ∷ rest) = omega arith

pub capacities_few : (xs : List CapArc) → cap_entries xs ≤ 2 * length xs
capacities_few [] = omega arith
capacities_few (a ∷ rest) = elim (cases_Bool (int_lt (pos 0) (total_cap (a ∷ rest)))) [
  | inl t ↦ rw t (omega arith)
  | inr t ↦ rw t (omega arith)
]

distinct_few : (zs : List ℤ) → length (distinct int_eq zs) ≤ length zs
distinct_few [] = omega arith
distinct_few (z ∷ zs) = elim (cases_Bool (list_any (int_eq z) zs)) [
  | inl t ↦ rw t (omega (arith, distinct_few zs))
  | inr t ↦ rw t (omega (arith, distinct_few zs))
]

roomy_few : (xs : List CostArc) → length (map (λ (a : CostArc). a.cost) (filter has_room xs)) ≤ length xs
roomy_few [] = omega arith
roomy_few (a ∷ rest) = elim (cases_Bool (has_room a)) [
  | inl t ↦ rw t (omega (arith, roomy_few rest))
  | inr t ↦ rw t (omega (arith, roomy_few rest))
]

pub costs_few : (xs : List CostArc) → cost_entries xs ≤ 2 * length xs
costs_few [] = omega arith
costs_few (a ∷ rest) =
    let one = distinct_few (map (λ (x : CostArc). x.cost) (filter has_room (a ∷ rest))) in
    let two = roomy_few (a ∷ rest) in
    elim (cases_Bool (list_any has_low (a ∷ rest))) [
      | inl t ↦ rw t (omega (arith, one, two))
      | inr t ↦ rw t (omega (arith, one, two))
    ]
