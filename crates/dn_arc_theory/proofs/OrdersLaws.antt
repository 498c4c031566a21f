-- No meaning depends on the order of arcs. Arcs that mean the same still do after the same arc is appended to both, and
-- parts that mean the same also do when joined.
use Rattle.std.proofs.Common.{ℕ, suc, zero, ◌<◌, List, [], ◌∷◌, ◌++◌, length, subst, arith, get_or, set, swap, IsPermutation}
use Rattle.std.proofs.lemmas.List.Sorted.{IsPermutation-keeps, IsPermutation-append_comm}
use Rattle.std.proofs.lemmas.List.Edits.{swap_is}
use Rattle.dn_arc_theory.specs.State.Equivalences.{IsMeaning}

-- exchanging the arc at a position with the first arc keeps the meaning
to_front : {Arc : Type 0} (Same : List Arc → List Arc → Type 0) → IsMeaning Same → (l : List Arc) (j : ℕ) (a d : Arc)
    → j < length l → Same (a ∷ l) (get_or l j d ∷ set l j a)
to_front Same m [] j a d h = absurd (omega arith)
to_front Same m (x ∷ l) zero a d h = m.same_swap a x l
to_front Same m (x ∷ l) (suc j) a d h =
    m.same_trans _ _ _ (m.same_swap a x l)
    (m.same_trans _ _ _ (m.same_more x _ _ (to_front Same m l j a d (omega arith)))
    (m.same_swap x (get_or l j d) (set l j a)))

exchanged : {Arc : Type 0} (Same : List Arc → List Arc → Type 0) → IsMeaning Same → (l : List Arc) (i j : ℕ) (d : Arc)
    → i < length l → j < length l → Same l (set (set l i (get_or l j d)) j (get_or l i d))
exchanged Same m [] i j d h k = absurd (omega arith)
exchanged Same m (x ∷ l) zero zero d h k = m.same_refl _
exchanged Same m (x ∷ l) zero (suc j) d h k = to_front Same m l j x d (omega arith)
exchanged Same m (x ∷ l) (suc i) zero d h k = to_front Same m l i x d (omega arith)
exchanged Same m (x ∷ l) (suc i) (suc j) d h k =
    m.same_more x _ _ (exchanged Same m l i j d (omega arith) (omega arith))

swapped : {Arc : Type 0} (Same : List Arc → List Arc → Type 0) → IsMeaning Same → (l : List Arc) (i j : ℕ)
    → i < length l → j < length l → Same l (swap l i j)
swapped Same m [] i j h k = absurd (omega arith)
swapped Same m (x ∷ l) i j h k = subst (Same (x ∷ l)) (swap_is (x ∷ l) i j x h k) (exchanged Same m (x ∷ l) i j x h k)

-- the order of arcs does not change the meaning
pub any_order : {Arc : Type 0} (Same : List Arc → List Arc → Type 0) → IsMeaning Same → (xs ys : List Arc)
    → IsPermutation xs ys → Same xs ys
any_order Same m xs ys p =
    IsPermutation-keeps xs (Same xs) (m.same_refl xs)
    (λ l i j h k s. m.same_trans _ _ _ s (swapped Same m l i j h k)) ys p

pub at_end : {Arc : Type 0} (Same : List Arc → List Arc → Type 0) → IsMeaning Same → (xs : List Arc) (a : Arc)
    → Same (xs ++ a ∷ []) (a ∷ xs)
at_end Same m [] a = m.same_refl _
at_end Same m (x ∷ xs) a = m.same_trans _ _ _ (m.same_more x _ _ (at_end Same m xs a)) (m.same_swap x a xs)

-- appending one arc to both lists keeps the meaning
pub same_push : {Arc : Type 0} (Same : List Arc → List Arc → Type 0) → IsMeaning Same → (xs ys : List Arc) (a : Arc)
    → Same xs ys → Same (xs ++ a ∷ []) (ys ++ a ∷ [])
same_push Same m xs ys a s =
    m.same_trans _ _ _ (at_end Same m xs a)
    (m.same_trans _ _ _ (m.same_more a xs ys s) (m.same_sym _ _ (at_end Same m ys a)))

-- putting the same arcs before both lists keeps the meaning
same_before : {Arc : Type 0} (Same : List Arc → List Arc → Type 0) → IsMeaning Same → (zs xs ys : List Arc) → Same xs ys
    → Same (zs ++ xs) (zs ++ ys)
same_before Same m [] xs ys s = s
same_before Same m (z ∷ zs) xs ys s = m.same_more z _ _ (same_before Same m zs xs ys s)

-- joining parts that mean the same keeps the meaning
pub same_joined : {Arc : Type 0} (Same : List Arc → List Arc → Type 0) → IsMeaning Same → (xs xs' ys ys' : List Arc)
    → Same xs xs' → Same ys ys' → Same (xs ++ ys) (xs' ++ ys')
same_joined Same m xs xs' ys ys' s t =
    let turned : (us vs : List _)
    → Same (us ++ vs) (vs ++ us) = λ us vs. any_order Same m (us ++ vs) (vs ++ us) (IsPermutation-append_comm us vs) in
    m.same_trans _ _ _ (same_before Same m xs ys ys' t)
    (m.same_trans _ _ _ (turned xs ys') (m.same_trans _ _ _ (same_before Same m ys' xs xs' s) (turned ys' xs')))
