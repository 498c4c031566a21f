-- The order of the arc lines of a text does not change which problem it poses.
use Rattle.std.proofs.Common.{◌≡◌, ℤ, ℕ, List, [], ◌∷◌, ◌++◌, length, filter_map, fold, Bool, cond, true, false, Option, Some, None, option_and_then, Ok, refl, sym, ap, ◌∙◌, append_assoc, append-nil, arith}
use Rattle.std.specs.List.{AllByRecursion, cons_option}
use Rattle.std.specs.List.Sorted.{IsPermutation}
use Rattle.std.specs.Option.{option_map, option_or, option_to_list}
use Rattle.std.proofs.lemmas.Bool.{cond-false}
use Rattle.std.proofs.lemmas.List.Elements.{All-from_recursion, filter_map-append, recursion_from_All}
use Rattle.std.proofs.lemmas.List.Sorted.{All-permutation, length_permutation}
use Rattle.std.proofs.lemmas.List.Sums.{fold-append}
use Rattle.dn_line.specs.declared.kind.Kind.{Kind}
use Rattle.dn_line.specs.declared.kind.Kind.TheVariants as Kinds
use Rattle.dn_line.specs.declared.kind.Letter.{Letter}
use Rattle.dn_line.specs.declared.kind.Letter.TheVariants.{S, T}
use Rattle.dn_line.specs.declared.line.Line.{Line}
use Rattle.dn_line.specs.declared.line.Line.TheVariants as Item
use Rattle.dn_line.specs.declared.word.Keyword.TheVariants as Key
use Rattle.dn_line.specs.declared.word.Word.{Word}
use Rattle.dn_line.specs.Pieces.{lines}
use Rattle.dn_line.specs.Faults.{field_tests, fields, first_fault, head_tests, own_tests}
use Rattle.dn_line.specs.Reading.{item, spelled, unless, words_read}
use Rattle.dn_line.specs.Words.{is_skip}
use Rattle.dn_line.proofs.FaultLaws.{fault_append}
use Rattle.dn_arc_theory.specs.Kinds.{ArcKind, capacities, costs, lengths}
use Rattle.dn_arc_theory.specs.Pairs.{bundle, same_pair}
use Rattle.dn_arc_theory.specs.State.Equivalences.{IsMeaning}
use Rattle.dn_arc_theory.specs.declared.arc.CapArc.{CapArc}
use Rattle.dn_arc_theory.proofs.CurvesLaws.{curve_meaning}
use Rattle.dn_arc_theory.proofs.LengthsLaws.{length_meaning}
use Rattle.dn_arc_theory.proofs.OrdersLaws.{any_order}
use Rattle.dn_arc_theory.proofs.TotalsLaws.{total_meaning}
use Rattle.dn_instance.specs.Instances.{Graph, Instance}
use Rattle.dn_instance.specs.Items.{Problem, arcs_of, by_key, cap_arc_in, cost_arc_in, graph_of, instance_as, instance_of, kind_known, length_arc_in, max_flow, problem_of, supply_in, terminal_in, terminal_of}
use Rattle.dn_instance.specs.Sameness.{IsSame, SameGraph}
use Rattle.dn_instance.specs.TextFaults.{is_arc, item_spelled, item_tests, line_tests, order_tests}
use Rattle.dn_instance.specs.Texts.{Reads, with_next}
use Rattle.dn_instance.proofs.CleanItems.{none_both}
use Rattle.dn_instance.proofs.ItemSteps.{problem_all}
use Rattle.dn_instance.proofs.SameLaws.{refl_of}
use Rattle.dn_instance.proofs.ValidLaws.{some_is}
use Rattle.dn_laws.specs.State.Contents.{IsArcLine, kept_words}
use Rattle.dn_laws.proofs.texts.ContentLaws.{Fine, fine_of, items_kept}

-- a meaning of lists is one of the lists from which they are taken
module _ {X Y : Type 0} (f : X → Option Y) (Same : List Y → List Y → Type 0) (m : IsMeaning Same) where
  more : (o : Option Y) (us vs : List Y) → Same us vs → Same (cons_option o us) (cons_option o vs)
  more None us vs s = s
  more (Some y) us vs s = m.same_more y us vs s

  swapped : (o q : Option Y) (us : List Y)
      → Same (cons_option o (cons_option q us)) (cons_option q (cons_option o us))
  swapped None q us = m.same_refl (cons_option q us)
  swapped (Some y) None us = m.same_refl (y ∷ us)
  swapped (Some y) (Some z) us = m.same_swap y z us

  through : IsMeaning (λ xs ys. Same (filter_map f xs) (filter_map f ys))
  through = record {
    same_refl = λ xs. m.same_refl (filter_map f xs);
    same_sym = λ xs ys. m.same_sym (filter_map f xs) (filter_map f ys);
    same_trans = λ xs ys zs. m.same_trans (filter_map f xs) (filter_map f ys) (filter_map f zs);
    same_more = λ x xs ys. more (f x) (filter_map f xs) (filter_map f ys);
    same_swap = λ x y xs. swapped (f x) (f y) (filter_map f xs);
  }

  behind : (front xs ys : List Y) → Same xs ys → Same (front ++ xs) (front ++ ys)
  behind [] xs ys s = s
  behind (y ∷ front) xs ys s = m.same_more y (front ++ xs) (front ++ ys) (behind front xs ys s)

-- the item that an arc line spells in a text of this kind
abbrev arc_item : Kind → List Word → Option Line
arc_item k [] = None
arc_item k (w ∷ ws) = item_spelled (Ok (item k Key.A ws))

abbrev IsArcItem : Option Line → Type 0
IsArcItem None = Unit {0}
IsArcItem (Some i) = is_arc i ≡ true

spells_arc : (k : Kind) (ws : List Word) → IsArcItem (item_spelled (Ok (item k Key.A ws)))
spells_arc Kinds.Min (s ∷ d ∷ l ∷ c ∷ x ∷ []) = refl
spells_arc Kinds.Max (s ∷ d ∷ c ∷ []) = refl
spells_arc Kinds.Sp (s ∷ d ∷ l ∷ []) = refl
spells_arc _ _ = tt

is_arc_item : (k : Kind) (ws : List Word) → IsArcItem (arc_item k ws)
is_arc_item k [] = tt
is_arc_item k (w ∷ ws) = spells_arc k ws

-- what an arc line adds to the items of a text of this kind
adds_arc : (k : Kind) (before : List Line) (ws : List Word) → kind_known before ≡ Some k → IsArcLine ws
    → first_fault (line_tests before ws) ≡ None
    → with_next before ws ≡ before ++ option_to_list (arc_item k ws)
adds_arc k before [] known is fine = cc (is.1)
adds_arc k before (w ∷ ws) known is fine =
    let o = kind_known before in
    let own = field_tests (fields o (w ∷ ws)) in
    let item_ts = item_tests before (item_spelled (words_read o (w ∷ ws))) in
    let one = none_both (head_tests o (w ∷ ws)) (order_tests before (w ∷ ws) ++ (own ++ item_ts)) fine in
    let two = none_both own item_ts (none_both (order_tests before (w ∷ ws)) (own ++ item_ts) one.1).1 in
    let none : first_fault (own_tests o (w ∷ ws)) ≡ None =
    fault_append (head_tests o (w ∷ ws)) own ∙ rw one.0 two.0 in
    let read : words_read o (w ∷ ws) ≡ Ok (spelled o (w ∷ ws)) =
    cond-false (is_skip (w ∷ ws)) _ _ is.0 ∙ ap (λ f. unless f (spelled o (w ∷ ws))) none in
    let spelled_is : spelled o (w ∷ ws) ≡ item k Key.A ws = rw (known, is.1) refl in
    ap (λ r. before ++ option_to_list (item_spelled r)) (read ∙ ap Ok spelled_is)

known_on : (before more_items : List Line) (k : Kind) → kind_known before ≡ Some k
    → kind_known (before ++ more_items) ≡ Some k
known_on before more_items k h = by (problem_of before) refl
  where
    by : (o : Option Problem) → problem_of before ≡ o → kind_known (before ++ more_items) ≡ Some k
    by None e = cc (rw e at h)
    by (Some p) e = rw (problem_all before more_items p e) (rw e at h)

joins : (o : Option Line) (rest : List Line) → option_to_list o ++ rest ≡ cons_option o rest
joins None rest = refl
joins (Some i) rest = refl

-- the items of a text whose last lines are arc lines
arc_items : (k : Kind) (before : List Line) (xs : List (List Word)) → kind_known before ≡ Some k
    → AllByRecursion IsArcLine xs → Fine before xs
    → fold with_next before xs ≡ before ++ filter_map (arc_item k) xs
arc_items k before [] known are fine = sym (append-nil before)
arc_items k before (ws ∷ xs) known are fine =
    let one = adds_arc k before ws known are.0 fine.0 in
    let next = before ++ option_to_list (arc_item k ws) in
    let known' : kind_known next ≡ Some k = known_on before (option_to_list (arc_item k ws)) k known in
    let fine' : Fine next xs = rw one at fine.1 in
    ap (λ b. fold with_next b xs) one ∙ arc_items k next xs known' are.1 fine'
    ∙ append_assoc before (option_to_list (arc_item k ws)) (filter_map (arc_item k) xs)
    ∙ ap (λ l. before ++ l) (joins (arc_item k ws) (filter_map (arc_item k) xs))

-- what no arc line makes is not made by any
module _ {X : Type 0} (f : Line → Option X) (none : (i : Line) → is_arc i ≡ true → f i ≡ None) (k : Kind) where
  not_made : (o : Option Line) (rest : List Line) → IsArcItem o → filter_map f rest ≡ []
      → filter_map f (cons_option o rest) ≡ []
  not_made None rest is e = e
  not_made (Some i) rest is e = rw (none i is) e

  none_made : (xs : List (List Word)) → filter_map f (filter_map (arc_item k) xs) ≡ []
  none_made [] = refl
  none_made (ws ∷ xs) =
      not_made (arc_item k ws) (filter_map (arc_item k) xs) (is_arc_item k ws) (none_made xs)

  front_made : (before : List Line) (xs : List (List Word))
      → filter_map f (before ++ filter_map (arc_item k) xs) ≡ filter_map f before
  front_made before xs =
      filter_map-append f before (filter_map (arc_item k) xs)
      ∙ ap (λ l. filter_map f before ++ l) (none_made xs) ∙ append-nil (filter_map f before)

no_supply : (i : Line) → is_arc i ≡ true → supply_in i ≡ None
no_supply (Item.MinArc src dst low cap cost) h = refl
no_supply (Item.MaxArc src dst cap) h = refl
no_supply (Item.SpArc src dst length) h = refl
no_supply _ h = cc

no_terminal : (letter : Letter) (i : Line) → is_arc i ≡ true → terminal_in letter i ≡ None
no_terminal letter (Item.MinArc src dst low cap cost) h = refl
no_terminal letter (Item.MaxArc src dst cap) h = refl
no_terminal letter (Item.SpArc src dst length) h = refl
no_terminal letter _ h = cc

-- the arc lines of a `max` text name no terminal
module _ (letter : Letter) (k : Kind) where
  not_named : (o : Option Line) (rest : List Line) → IsArcItem o → terminal_of letter rest ≡ None
      → terminal_of letter (cons_option o rest) ≡ None
  not_named None rest is e = e
  not_named (Some i) rest is e = rw (no_terminal letter i is) e

  none_named : (xs : List (List Word)) → terminal_of letter (filter_map (arc_item k) xs) ≡ None
  none_named [] = refl
  none_named (ws ∷ xs) =
      not_named (arc_item k ws) (filter_map (arc_item k) xs) (is_arc_item k ws) (none_named xs)

  front_named : (before : List Line) (xs : List (List Word))
      → terminal_of letter (before ++ filter_map (arc_item k) xs) ≡ terminal_of letter before
  front_named [] xs = none_named xs
  front_named (i ∷ before) xs = ap (option_or (terminal_in letter i)) (front_named before xs)

-- the arc of a pair, if the arc is one of this pair
abbrev at_pair : {Arc : Type 0} → ℤ × ℤ → (ℤ × ℤ) × Arc → Option Arc
at_pair p a = cond (same_pair p a.0) (Some a.1) None

bundle_is : {Arc : Type 0} (p : ℤ × ℤ) (arcs : List ((ℤ × ℤ) × Arc)) → bundle p arcs ≡ filter_map (at_pair p) arcs
bundle_is p [] = refl
bundle_is p (a ∷ arcs) = by (same_pair p a.0) (bundle_is p arcs)
  where
    by : (b : Bool) → bundle p arcs ≡ filter_map (at_pair p) arcs
        → cond b (a.1 ∷ bundle p arcs) (bundle p arcs)
        ≡ cons_option (cond b (Some a.1) None) (filter_map (at_pair p) arcs)
    by true e = ap (λ l. a.1 ∷ l) e
    by false e = e

-- graphs whose arc lines are permuted mean the same
module _ {Arc : Type 0} (kind : ArcKind Arc) (meaning : IsMeaning kind.Same) (arc_in : Line → Option ((ℤ × ℤ) × Arc))
    (k : Kind) where
  at_one : (p : ℤ × ℤ) (before : List Line) (xs ys : List (List Word)) → IsPermutation xs ys
      → kind.Same (filter_map (at_pair p) (arcs_of arc_in (before ++ filter_map (arc_item k) xs)))
      (filter_map (at_pair p) (arcs_of arc_in (before ++ filter_map (arc_item k) ys)))
  at_one p before xs ys perm =
      let f = filter_map (at_pair p) in
      let a = filter_map (arc_item k) in
      let split : (zs : List (List Word)) → f (arcs_of arc_in (before ++ a zs)) ≡
      f (arcs_of arc_in before) ++ f (arcs_of arc_in (a zs)) =
      λ zs. ap f (filter_map-append arc_in before (a zs))
      ∙ filter_map-append (at_pair p) (arcs_of arc_in before) (arcs_of arc_in (a zs)) in
      let lines = any_order _ (through (arc_item k) _ (through arc_in _ (through (at_pair p) kind.Same meaning))) xs ys
      perm in
      rw (split xs, split ys)
      (behind (at_pair p) kind.Same meaning (f (arcs_of arc_in before)) (f (arcs_of arc_in (a xs)))
      (f (arcs_of arc_in (a ys))) lines)

  same_graph : (nodes : ℤ) (before : List Line) (xs ys : List (List Word)) → IsPermutation xs ys
      → SameGraph kind.Same (graph_of arc_in nodes (before ++ filter_map (arc_item k) xs))
      (graph_of arc_in nodes (before ++ filter_map (arc_item k) ys))
  same_graph nodes before xs ys perm = record {
    nodes = refl;
    bundles = λ p. rw (bundle_is p, bundle_is p) (at_one p before xs ys perm);
  }

-- what a text of a companion makes of arc lines
no_items : (k : Kind) → ((ws : List Word) → arc_item k ws ≡ None) → (xs : List (List Word))
    → filter_map (arc_item k) xs ≡ []
no_items k none [] = refl
no_items k none (ws ∷ xs) = rw (none ws) (no_items k none xs)

of_ss : (ws : List Word) → arc_item Kinds.Ss ws ≡ None
of_ss [] = refl
of_ss (w ∷ ws) = refl

of_p2p : (ws : List Word) → arc_item Kinds.P2p ws ≡ None
of_p2p [] = refl
of_p2p (w ∷ ws) = refl

of_co : (ws : List Word) → arc_item Kinds.Co ws ≡ None
of_co [] = refl
of_co (w ∷ ws) = refl

-- two instances that are made alike
alike : (o q : Option Instance) (I J : Instance) → o ≡ q → o ≡ Some I → q ≡ Some J → IsSame I J
alike o q I J same i j = rw (some_is I J (sym i ∙ same ∙ j)) (refl_of J)

max_same : (s t s' t' : Option ℤ) (G H : Graph CapArc) (I J : Instance) → s' ≡ s → t' ≡ t
    → SameGraph capacities.Same G H → max_flow s t G ≡ Some I → max_flow s' t' H ≡ Some J → IsSame I J
max_same (Some a) (Some b) s' t' G H I J e f same i j =
    rw (← some_is _ I i, ← some_is _ J (rw (e, f) at j)) (refl, refl, same)
max_same None t s' t' G H I J e f same i j = cc i
max_same (Some a) None s' t' G H I J e f same i j = cc i

same_as : (k : Kind) (nodes : ℤ) (before : List Line) (xs ys : List (List Word)) (I J : Instance) → IsPermutation xs ys
    → instance_as k nodes (before ++ filter_map (arc_item k) xs) ≡ Some I
    → instance_as k nodes (before ++ filter_map (arc_item k) ys) ≡ Some J → IsSame I J
same_as Kinds.Min nodes before xs ys I J perm i j =
    let supplies = ap by_key (front_made supply_in no_supply Kinds.Min before xs
    ∙ sym (front_made supply_in no_supply Kinds.Min before ys)) in
    rw (← some_is _ I i, ← some_is _ J j)
    (supplies, same_graph costs curve_meaning cost_arc_in Kinds.Min nodes before xs ys perm)
same_as Kinds.Max nodes before xs ys I J perm i j =
    max_same _ _ _ _ _ _ I J (front_named S Kinds.Max before ys ∙ sym (front_named S Kinds.Max before xs))
    (front_named T Kinds.Max before ys ∙ sym (front_named T Kinds.Max before xs))
    (same_graph capacities total_meaning cap_arc_in Kinds.Max nodes before xs ys perm) i j
same_as Kinds.Sp nodes before xs ys I J perm i j =
    rw (← some_is _ I i, ← some_is _ J j)
    (same_graph lengths length_meaning length_arc_in Kinds.Sp nodes before xs ys perm)
same_as Kinds.Ss nodes before xs ys I J perm i j =
    alike _ _ I J (rw (no_items Kinds.Ss of_ss xs, no_items Kinds.Ss of_ss ys) refl) i j
same_as Kinds.P2p nodes before xs ys I J perm i j =
    alike _ _ I J (rw (no_items Kinds.P2p of_p2p xs, no_items Kinds.P2p of_p2p ys) refl) i j
same_as Kinds.Co nodes before xs ys I J perm i j =
    alike _ _ I J (rw (no_items Kinds.Co of_co xs, no_items Kinds.Co of_co ys) refl) i j

-- before the problem line there is no arc line
none_early : (before : List Line) (xs : List (List Word)) → problem_of before ≡ None → AllByRecursion IsArcLine xs
    → Fine before xs → xs ≡ []
none_early before [] none are fine = refl
none_early before ([] ∷ xs) none are fine = cc (are.0.1)
none_early before ((w ∷ ws) ∷ xs) none are fine =
    let o = kind_known before in
    let ts = head_tests o (w ∷ ws) in
    let item_ts = item_tests before (item_spelled (words_read o (w ∷ ws))) in
    let others = order_tests before (w ∷ ws) ++ (field_tests (fields o (w ∷ ws)) ++ item_ts) in
    let one : first_fault ts ≡ None = (none_both ts others fine.0).0 in
    early w ws (rw none at one) are.0
  where
    early : (w : Word) (ws : List Word) → first_fault (head_tests None (w ∷ ws)) ≡ None → IsArcLine (w ∷ ws)
        → (w ∷ ws) ∷ xs ≡ []
    early w ws none is = cc (rw is.1 at none)

none_of : (xs ys : List (List Word)) → xs ≡ [] → IsPermutation xs ys → ys ≡ []
none_of xs [] e perm = refl
none_of xs (y ∷ ys) e perm = absurd (omega (arith, length_permutation xs (y ∷ ys) perm, ap length e))

-- the last lines of a text have no fault after the lines before them
fine_behind : (items : List Line) (front rest : List (List Word)) → Fine items (front ++ rest)
    → Fine (fold with_next items front) rest
fine_behind items [] rest fine = fine
fine_behind items (ws ∷ front) rest fine = fine_behind (with_next items ws) front rest fine.1

-- texts whose items are these and arc items in any order pose the same problem
by_problem : (before : List Line) (o : Option Problem) (xs ys : List (List Word)) (I J : Instance)
    → problem_of before ≡ o → IsPermutation xs ys → AllByRecursion IsArcLine xs → AllByRecursion IsArcLine ys
    → Fine before xs → Fine before ys → instance_of (fold with_next before xs) ≡ Some I
    → instance_of (fold with_next before ys) ≡ Some J → IsSame I J
by_problem before None xs ys I J none perm are are' fine fine' i j =
    let empty = none_early before xs none are fine in
    let empty' = none_of xs ys empty perm in
    alike _ _ I J (rw (empty, empty') refl) i j
by_problem before (Some p) xs ys I J is perm are are' fine fine' i j =
    let known : kind_known before ≡ Some p.kind = ap (option_map (λ (q : Problem). q.kind)) is in
    let a = arc_items p.kind before xs known are fine in
    let b = arc_items p.kind before ys known are' fine' in
    let made : (zs : List (List Word)) (K : Instance)
    → fold with_next before zs ≡ before ++ filter_map (arc_item p.kind) zs
    → instance_of (fold with_next before zs) ≡ Some K
    → instance_as p.kind p.nodes (before ++ filter_map (arc_item p.kind) zs) ≡ Some K =
    λ zs K e h.
    let all = before ++ filter_map (arc_item p.kind) zs in
    let one : instance_of all ≡ instance_as p.kind p.nodes all =
    ap (option_and_then (λ (q : Problem). instance_as q.kind q.nodes all))
    (problem_all before (filter_map (arc_item p.kind) zs) p is) in
    sym one ∙ rw e at h in
    same_as p.kind p.nodes before xs ys I J perm (made xs I a i) (made ys J b j)

pub arc_order : (t u : List ℕ) (head arcs other : List (List Word)) (I J : Instance) → kept_words t ≡ head ++ arcs
    → kept_words u ≡ head ++ other → IsPermutation arcs other → AllByRecursion IsArcLine arcs → Reads t I → Reads u J
    → IsSame I J
arc_order t u head arcs other I J kept kept' perm are r s =
    let before = fold with_next [] head in
    let items = items_kept [] (lines t) ∙ ap (fold with_next []) kept ∙ fold-append with_next [] head arcs in
    let items' = items_kept [] (lines u) ∙ ap (fold with_next []) kept' ∙ fold-append with_next [] head other in
    let fine = fine_behind [] head arcs (rw kept at (fine_of [] (lines t) (lines t) refl r.clean)) in
    let fine' = fine_behind [] head other (rw kept' at (fine_of [] (lines u) (lines u) refl s.clean)) in
    let are' =
    recursion_from_All IsArcLine other
    (All-permutation IsArcLine arcs other perm (All-from_recursion IsArcLine arcs are)) in
    by_problem before (problem_of before) arcs other I J refl perm are are' fine fine' (rw items at r.instance_is)
    (rw items' at s.instance_is)
