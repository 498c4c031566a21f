-- Links from the first one that is not 0 on.
use Rattle.std.proofs.Common.{◌≡◌, ℕ, zero, suc, ℤ, pos, ◌+ℤ◌, List, [], ◌∷◌, ◌++◌, drop, length, get_or, refl, sym, ap, ◌∙◌, arith, false, nat_eq}
use Rattle.std.proofs.lemmas.Int.{ints}
use Rattle.dn_nodes.specs.State.Links.{direct, direct_from, lead}

pub lead_skip : (node : ℤ) (links : List ℕ)
    → direct_from (node +ℤ pos (lead links)) (drop (lead links) links) ≡ direct_from node links
lead_skip node [] = refl
lead_skip node (zero ∷ links) =
    let e : node +ℤ pos (suc (lead links)) ≡ (node +ℤ pos 1) +ℤ pos (lead links) = omega (arith, ints) in
    ap (λ t. direct_from t (drop (lead links) links)) e ∙ lead_skip (node +ℤ pos 1) links
lead_skip node (suc l ∷ links) =
    let n : nat_eq (suc l) 0 ≡ false = grind arith in
    let e : node +ℤ pos 0 ≡ node = omega (arith, ints) in
    rw n (ap (λ t. direct_from t (suc l ∷ links)) e)

-- the link after the zeros
pub lead_first : (links rest : List ℕ) (link : ℕ) → drop (lead links) links ≡ link ∷ rest → link ≡ 0 → ⊥
lead_first [] rest link e z = cc e
lead_first (zero ∷ links) rest link e z = lead_first links rest link e z
lead_first (suc l ∷ links) rest link e z =
    let n : nat_eq (suc l) 0 ≡ false = grind arith in
    let h : suc l ≡ link = ap (λ (xs : List ℕ). get_or xs 0 0) (rw n at e) in
    omega (arith, h, z)

-- links that begin with one that is not 0
pub from_first : (node : ℤ) (links rest : List ℕ) (link : ℕ) → drop (lead links) links ≡ link ∷ rest
    → direct_from node links
    ≡ (node +ℤ pos (lead links), link) ∷ direct_from ((node +ℤ pos (lead links)) +ℤ pos 1) rest
from_first node links rest link e = sym (lead_skip node links) ∙ go link e
  where
    at : ℤ
    at = node +ℤ pos (lead links)

    go : (l : ℕ) → drop (lead links) links ≡ l ∷ rest
        → direct_from (node +ℤ pos (lead links)) (drop (lead links) links)
        ≡ (node +ℤ pos (lead links), l) ∷ direct_from ((node +ℤ pos (lead links)) +ℤ pos 1) rest
    go zero f = absurd (lead_first links rest 0 f refl)
    go (suc l) f = rw f refl

-- only zeros
pub from_none : (node : ℤ) (links : List ℕ) → drop (lead links) links ≡ [] → direct_from node links ≡ []
from_none node links e = sym (lead_skip node links) ∙ rw e refl

-- the list of links as the walk sees it
pub from_is : (n : ℕ) (links : List ℕ) → direct_from (pos n) links ≡ direct n links
from_is n [] = refl
from_is n (zero ∷ links) = let e : pos n +ℤ pos 1 ≡ pos (suc n) = omega (arith, ints) in rw e (from_is (suc n) links)
from_is n (suc l ∷ links) =
    let e : pos n +ℤ pos 1 ≡ pos (suc n) = omega (arith, ints) in
    rw e (ap (λ r. (pos n, suc l) ∷ r) (from_is (suc n) links))

-- ---- a step of the walk

module _ (above now : List (ℤ × ℕ)) (links : List ℕ) (node : ℤ) (view : direct_from node links ++ above ≡ now) where
  pub walk_link : (rest : List ℕ) (z link : ℕ) (t u : ℤ) → z ≡ lead links → drop (lead links) links ≡ link ∷ rest
      → t ≡ node +ℤ pos z → u ≡ t +ℤ pos 1 → now ≡ (t, link) ∷ (direct_from u rest ++ above)
  walk_link rest z link t u is drops e f =
      let first = from_first node links rest link drops in
      let at : t ≡ node +ℤ pos (lead links) = rw (← is) e in
      rw (← view, first, f, at) refl

  no_more : length (drop (lead links) links) ≡ 0 → drop (lead links) links ≡ []
  no_more h = nothing (drop (lead links) links) h
    where
      nothing : (xs : List ℕ) → length xs ≡ 0 → xs ≡ []
      nothing [] g = refl
      nothing (x ∷ xs) g = absurd (omega (arith, g))

  pub walk_above : length (drop (lead links) links) ≡ 0 → now ≡ above
  walk_above zeros = rw (← view, from_none node links (no_more zeros)) refl
