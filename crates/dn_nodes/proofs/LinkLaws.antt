-- Links in a list of links, and in a map above it.
use Rattle.std.proofs.Common.{inl, inr, ◌≡◌, ℕ, zero, suc, ◌+◌, ◌<◌, ◌≤◌, ℤ, pos, ◌≤ℤ◌, ◌<ℤ◌, List, [], ◌∷◌, ◌++◌, Option, Some, None, length, slice_get, get_or, set, refl, sym, ap, ◌∙◌, arith, Less, Greater, int_cmp, replicate, take, append_assoc}
use Rattle.std.specs.List.{AllByRecursion}
use Rattle.std.specs.BTreeMap.{insert_entry}
use Rattle.std.specs.Map.{lookup}
use Rattle.std.proofs.lemmas.Bool.{cases_Bool}
use Rattle.std.proofs.lemmas.Int.{ints}
use Rattle.std.proofs.lemmas.List.{get_or-set_other}
use Rattle.dn_arc_theory.proofs.CanonsLaws.{by_cmp}
use Rattle.dn_nodes.specs.State.Nodes.{at, Ascends}
use Rattle.dn_nodes.specs.State.Links.{direct, AreFar}
use Rattle.dn_nodes.proofs.KeyLaws.{at_self, Above, above_none, ascends_head, ascends_tail, lookup_right}
use Rattle.dn_nodes.proofs.KeyLaws.{past, before, insert_first}

-- the list has no links from the node of any of these entries on
abbrev pub Clear : List ℕ → List (ℤ × ℕ) → Type 0
Clear links es = AllByRecursion (λ (e : ℤ × ℕ). (i : ℕ) → e.0 ≤ℤ pos i → get_or links i 0 ≡ 0) es

-- all keys are below this one
abbrev pub Under : ℤ → List (ℤ × ℕ) → Type 0
Under k es = AllByRecursion (λ (e : ℤ × ℕ). int_cmp k e.0 ≡ Greater) es

-- a link as an option
abbrev pub link_of : Option ℕ → Option ℕ
link_of None = None
link_of (Some zero) = None
link_of (Some (suc l)) = Some (suc l)

pub under_none : (k : ℤ) (es : List (ℤ × ℕ)) → Under k es → lookup (at k) es ≡ None
under_none k [] u = refl
under_none k (e ∷ es) u = rw u.0 (under_none k es u.1)

pub lookup_before : (k : ℤ) (xs ys : List (ℤ × ℕ)) → lookup (at k) ys ≡ None
    → lookup (at k) (xs ++ ys) ≡ lookup (at k) xs
lookup_before k [] ys h = h
lookup_before k (x ∷ xs) ys h =
    elim (cases_Bool (at k x.0)) [ inl e ↦ rw e refl | inr e ↦ rw e (lookup_before k xs ys h) ]

-- ---- the list of links

pub direct_low : (n : ℕ) (links : List ℕ) (k : ℤ) → k <ℤ pos n → Above k (direct n links)
direct_low n [] k h = tt
direct_low n (zero ∷ links) k h = direct_low (suc n) links k (omega (arith, ints))
direct_low n (suc l ∷ links) k h = (before k (pos n) h, direct_low (suc n) links k (omega (arith, ints)))

pub direct_under : (n : ℕ) (links : List ℕ) (k : ℤ) → pos (n + length links) ≤ℤ k → Under k (direct n links)
direct_under n [] k h = tt
direct_under n (zero ∷ links) k h = direct_under (suc n) links k (omega (arith, ints))
direct_under n (suc l ∷ links) k h =
    (past k (pos n) (omega (arith, ints)), direct_under (suc n) links k (omega (arith, ints)))

pub direct_find : (n i : ℕ) (links : List ℕ) (k : ℤ) → k ≡ pos (n + i)
    → lookup (at k) (direct n links) ≡ link_of (slice_get links i)
direct_find n i [] k h = refl
direct_find n zero (zero ∷ links) k h =
    above_none k (direct (suc n) links) (direct_low (suc n) links k (omega (arith, ints)))
direct_find n zero (suc l ∷ links) k h = let e : k ≡ pos n = omega (arith, ints) in rw (e, at_self (pos n)) refl
direct_find n (suc i) (zero ∷ links) k h = direct_find (suc n) i links k (omega (arith, ints))
direct_find n (suc i) (suc l ∷ links) k h =
    rw (past k (pos n) (omega (arith, ints))) (direct_find (suc n) i links k (omega (arith, ints)))

-- a list of no links
direct_none : (n : ℕ) (links : List ℕ) → ((i : ℕ) → get_or links i 0 ≡ 0) → direct n links ≡ []
direct_none n [] h = refl
direct_none n (zero ∷ links) h = direct_none (suc n) links (λ i. h (suc i))
direct_none n (suc l ∷ links) h = cc (h 0)

-- a link after all others
direct_last : (n i : ℕ) (links : List ℕ) (l : ℕ) → i < length links → ((j : ℕ) → i ≤ j → get_or links j 0 ≡ 0)
    → direct n (set links i (suc l)) ≡ direct n links ++ (pos (n + i), suc l) ∷ []
direct_last n i [] l lt h = absurd (omega arith)
direct_last n zero (x ∷ links) l lt h =
    let none = direct_none (suc n) links (λ i. h (suc i) (omega arith)) in
    let x0 : x ≡ 0 = h 0 (omega arith) in
    let n0 : n + 0 ≡ n = omega arith in
    rw (x0, none, n0) refl
direct_last n (suc i) (zero ∷ links) l lt h =
    let e : n + suc i ≡ suc n + i = omega arith in
    rw e (direct_last (suc n) i links l (omega arith) (λ j le. h (suc j) (omega arith)))
direct_last n (suc i) (suc x ∷ links) l lt h =
    let e : n + suc i ≡ suc n + i = omega arith in
    rw e (ap (λ r. (pos n, suc x) ∷ r) (direct_last (suc n) i links l (omega arith) (λ j le. h (suc j) (omega arith))))

direct_more : (n m : ℕ) (links : List ℕ) → direct n (links ++ replicate m 0) ≡ direct n links
direct_more n zero [] = refl
direct_more n (suc m) [] = direct_more (suc n) m []
direct_more n m (zero ∷ links) = direct_more (suc n) m links
direct_more n m (suc l ∷ links) = ap (λ r. (pos n, suc l) ∷ r) (direct_more (suc n) m links)

-- a new link is an insertion
direct_put : (n i : ℕ) (links : List ℕ) (k : ℤ) (l : ℕ) → k ≡ pos (n + i) → i < length links → get_or links i 0 ≡ 0
    → direct n (set links i (suc l)) ≡ insert_entry int_cmp (direct n links) k (suc l)
direct_put n i [] k l h lt z = absurd (omega arith)
direct_put n zero (zero ∷ links) k l h lt z =
    let e : k ≡ pos n = omega (arith, ints) in
    rw e
    (sym
    (insert_first (direct (suc n) links) (pos n) (suc l) (direct_low (suc n) links (pos n) (omega (arith, ints)))))
direct_put n zero (suc x ∷ links) k l h lt z = cc z
direct_put n (suc i) (zero ∷ links) k l h lt z = direct_put (suc n) i links k l (omega (arith, ints)) (omega arith) z
direct_put n (suc i) (suc x ∷ links) k l h lt z =
    rw (past k (pos n) (omega (arith, ints)))
    (ap (λ r. (pos n, suc x) ∷ r) (direct_put (suc n) i links k l (omega (arith, ints)) (omega arith) z))

-- ---- the maps

pub far_above : (m : ℕ) (es : List (ℤ × ℕ)) (k : ℤ) → k <ℤ pos m → AreFar m es → Above k es
far_above m [] k h f = tt
far_above m (e ∷ es) k h f = (before k e.0 (omega (arith, ints, f.0.0)), far_above m es k h f.1)

pub far_insert : (m : ℕ) (es : List (ℤ × ℕ)) (k : ℤ) (l : ℕ) → pos m ≤ℤ k → 0 < l → AreFar m es
    → AreFar m (insert_entry int_cmp es k l)
far_insert m [] k l h some f = ((h, some), tt)
far_insert m (e ∷ es) k l h some f =
    by_cmp k e.0 (λ c lt. rw c ((h, some), f)) (λ c eq. rw c ((f.0.0, some), f.1))
    (λ c gt. rw c (f.0, far_insert m es k l h some f.1))

above_append : (k : ℤ) (xs ys : List (ℤ × ℕ)) → Above k xs → Above k ys → Above k (xs ++ ys)
above_append k [] ys a b = b
above_append k (x ∷ xs) ys a b = (a.0, above_append k xs ys a.1 b)

-- an insertion into the first of two lists, or into the second
insert_before : (xs ys : List (ℤ × ℕ)) (k : ℤ) (l : ℕ) → Above k ys
    → insert_entry int_cmp xs k l ++ ys ≡ insert_entry int_cmp (xs ++ ys) k l
insert_before [] ys k l a = sym (insert_first ys k l a)
insert_before (x ∷ xs) ys k l a =
    by_cmp k x.0 (λ c lt. rw c refl) (λ c eq. rw c refl) (λ c gt. rw c (ap (λ r. x ∷ r) (insert_before xs ys k l a)))

insert_past : (xs ys : List (ℤ × ℕ)) (k : ℤ) (l : ℕ) → Under k xs
    → xs ++ insert_entry int_cmp ys k l ≡ insert_entry int_cmp (xs ++ ys) k l
insert_past [] ys k l u = refl
insert_past (x ∷ xs) ys k l u = rw u.0 (ap (λ r. x ∷ r) (insert_past xs ys k l u.1))

module _ (above now : List (ℤ × ℕ)) (links : List ℕ) (k : ℤ) (far : AreFar (length links) above)
    (view : direct 0 links ++ above ≡ now) where
  pub find_below : k <ℤ pos 0 → lookup (at k) now ≡ None
  find_below h =
      rw (← view)
      (above_none k (direct 0 links ++ above)
      (above_append k (direct 0 links) above (direct_low 0 links k h)
      (far_above (length links) above k (omega (arith, ints)) far)))

  pub find_far : pos (length links) ≤ℤ k → lookup (at k) above ≡ lookup (at k) now
  find_far h =
      rw (← view)
      (sym
      (lookup_right (at k) (direct 0 links) above
      (under_none k (direct 0 links) (direct_under 0 links k (omega (arith, ints))))))

  pub note_far : pos (length links) ≤ℤ k → (new : List (ℤ × ℕ)) (l : ℕ) → new ≡ insert_entry int_cmp above k l
      → direct 0 links ++ new ≡ insert_entry int_cmp now k l
  note_far h new l e =
      rw (e, ← view) (insert_past (direct 0 links) above k l (direct_under 0 links k (omega (arith, ints))))

  module _ (i : ℕ) (is : k ≡ pos i) (lt : i < length links) where
    pub find_link : link_of (slice_get links i) ≡ lookup (at k) now
    find_link =
        rw (
          ← view,
          lookup_before k (direct 0 links) above
              (above_none k above (far_above (length links) above k (omega (arith, ints)) far)),
        )
        (sym (direct_find 0 i links k (omega (arith, ints))))

    no_link : (o : Option ℕ) → o ≡ slice_get links i → link_of o ≡ None → get_or links i 0 ≡ 0
    no_link None h z = zero_past links i (sym h)
      where
        zero_past : (xs : List ℕ) (j : ℕ) → slice_get xs j ≡ None → get_or xs j 0 ≡ 0
        zero_past [] j g = refl
        zero_past (x ∷ xs) zero g = cc
        zero_past (x ∷ xs) (suc j) g = zero_past xs j g
    no_link (Some zero) h z = zero_here links i (sym h)
      where
        zero_here : (xs : List ℕ) (j : ℕ) → slice_get xs j ≡ Some 0 → get_or xs j 0 ≡ 0
        zero_here [] j g = cc
        zero_here (x ∷ xs) zero g = cc
        zero_here (x ∷ xs) (suc j) g = zero_here xs j g
    no_link (Some (suc l)) h z = cc

    pub note_link : (l : ℕ) → 0 < l → lookup (at k) now ≡ None
        → direct 0 (set links i l) ++ above ≡ insert_entry int_cmp now k l
    note_link zero some_link none = absurd (omega arith)
    note_link (suc l) some_link none =
        let bare = no_link (slice_get links i) refl (find_link ∙ none) in
        rw (direct_put 0 i links k l (omega (arith, ints)) lt bare, ← view)
        (insert_before (direct 0 links) above k (suc l)
        (far_above (length links) above k (omega (arith, ints)) far))

-- ---- links that reach further

zero_beyond : (xs : List ℕ) (m i : ℕ) → length xs ≤ i → get_or (xs ++ replicate m 0) i 0 ≡ 0
zero_beyond [] zero i h = refl
zero_beyond [] (suc m) zero h = refl
zero_beyond [] (suc m) (suc i) h = zero_beyond [] m i (omega arith)
zero_beyond (x ∷ xs) m zero h = absurd (omega arith)
zero_beyond (x ∷ xs) m (suc i) h = zero_beyond xs m i (omega arith)

pub clear_first : (links : List ℕ) (m : ℕ) (es : List (ℤ × ℕ)) → AreFar (length links) es
    → Clear (links ++ replicate m 0) es
clear_first links m [] f = tt
clear_first links m (e ∷ es) f =
    ((λ i le. zero_beyond links m i (omega (arith, ints, f.0.0))), clear_first links m es f.1)

pub same_first : (links : List ℕ) (m : ℕ) (es : List (ℤ × ℕ))
    → direct 0 (links ++ replicate m 0) ++ es ≡ direct 0 links ++ es
same_first links m es = rw (direct_more 0 m links) refl

clear_rest : (links : List ℕ) (i l : ℕ) (es : List (ℤ × ℕ)) → Above (pos i) es → Clear links es
    → Clear (set links i l) es
clear_rest links i l [] a c = tt
clear_rest links i l (e ∷ es) a c = (
  (λ j le. get_or-set_other links i j l 0
      (λ same. absurd (omega (arith, ints, less_from (pos i) e.0 a.0, le, same)))
      ∙ c.0 j le),
  clear_rest links i l es a.1 c.1,
)
  where
    less_from : (x y : ℤ) → int_cmp x y ≡ Less → x <ℤ y
    less_from x y h = by_cmp x y (λ c lt. lt) (λ c eq. cc (h, c)) (λ c gt. cc (h, c))

-- an entry of the map moves to the list
module _ (links : List ℕ) (i l : ℕ) (k : ℤ) (es rest : List (ℤ × ℕ)) (is : es ≡ (k, l) ∷ rest) (at_i : k ≡ pos i)
    (lt : i < length links) (clear : Clear links es) (up : Ascends es) where
  cleared : Clear links ((k, l) ∷ rest)
  cleared = rw is at clear

  ascending : Ascends ((k, l) ∷ rest)
  ascending = rw is at up

  pub moved_same : (m : ℕ) → AreFar m es → direct 0 (set links i l) ++ rest ≡ direct 0 links ++ es
  moved_same m far = go l refl
    where
      some_link : 0 < l
      some_link = let f : AreFar m ((k, l) ∷ rest) = rw is at far in f.0.1

      go : (x : ℕ) → l ≡ x → direct 0 (set links i l) ++ rest ≡ direct 0 links ++ es
      go zero e = absurd (omega (arith, some_link))
      go (suc x) e =
          let i0 : 0 + i ≡ i = omega arith in
          rw (is, e, at_i, direct_last 0 i links x lt (λ j le. cleared.0 j (omega (arith, ints))), i0)
          (append_assoc (direct 0 links) ((pos i, suc x) ∷ []) rest)

  pub moved_clear : Clear (set links i l) rest
  moved_clear = clear_rest links i l rest (rw at_i at (ascends_head (k, l) rest ascending)) cleared.1

  pub moved_ascends : Ascends rest
  moved_ascends = ascends_tail (k, l) rest ascending

  pub moved_far : (m : ℕ) → AreFar m es → AreFar m rest
  moved_far m far = let f : AreFar m ((k, l) ∷ rest) = rw is at far in f.1

-- where the first entry of a map is beyond the list, all are
pub far_all : (m n : ℕ) (es : List (ℤ × ℕ)) (e : ℤ × ℕ) → slice_get es 0 ≡ Some e → pos n ≤ℤ e.0 → Ascends es
    → AreFar m es
    → AreFar n es
far_all m n [] e h le up far = tt
far_all m n (x ∷ es) e h le up far =
    let le_x : pos n ≤ℤ x.0 = is_x x e h le in
    ((le_x, far.0.1), others es (ascends_head x es up) far.1)
  where
    is_x : (y z : ℤ × ℕ) → Some y ≡ Some z → pos n ≤ℤ z.0 → pos n ≤ℤ y.0
    is_x y z g l = let s : y ≡ z = cc in rw s l

    others : (ys : List (ℤ × ℕ)) → Above x.0 ys → AreFar m ys → AreFar n ys
    others [] a f = tt
    others (y ∷ ys) a f =
        by_cmp x.0 y.0
        (λ c lt. ((omega (arith, ints, is_x x e h le), f.0.1), others ys a.1 f.1)) (λ c eq. cc (a.0, c))
        (λ c gt. cc (a.0, c))

-- ---- what the code has at hand

pub link_some : (l : ℕ) → (l ≡ 0 → ⊥) → Some l ≡ link_of (Some l)
link_some zero h = absurd (h refl)
link_some (suc l) h = refl

pub past_end : (xs : List ℕ) (i : ℕ) → slice_get xs i ≡ None → length xs ≤ i
past_end [] i h = omega arith
past_end (x ∷ xs) zero h = cc
past_end (x ∷ xs) (suc i) h = let le = past_end xs i h in omega (arith, le)

pub within : (xs : List ℕ) (i x : ℕ) → slice_get xs i ≡ Some x → i < length xs
within [] i x h = cc
within (y ∷ xs) zero x h = omega arith
within (y ∷ xs) (suc i) x h = let lt = within xs i x h in omega (arith, lt)

take_whole : (xs : List ℕ) (n : ℕ) → length xs ≤ n → take n xs ≡ xs
take_whole [] zero h = refl
take_whole [] (suc n) h = refl
take_whole (x ∷ xs) zero h = absurd (omega arith)
take_whole (x ∷ xs) (suc n) h = ap (λ r. x ∷ r) (take_whole xs n (omega arith))

pub resized : (old new : List ℕ) (n m : ℕ) → length old ≤ n → new ≡ take n old ++ replicate m 0
    → new ≡ old ++ replicate m 0
resized old new n m h e = e ∙ ap (λ r. r ++ replicate m 0) (take_whole old n h)

pub first_some : (m : ℕ) (es : List (ℤ × ℕ)) (e : ℤ × ℕ) → slice_get es 0 ≡ Some e → AreFar m es → pos 0 ≤ℤ e.0
first_some m [] e h f = cc
first_some m (x ∷ es) e h f =
    let is : x.0 ≡ e.0 = cc in
    omega (arith, ints, f.0.0, is)
