-- Sums over entries, each a number at an ordered pair: if each chosen pair's numbers sum to at most 0, so do those of
-- all chosen pairs.
use Rattle.std.proofs.Common.{inl, inr, arith}
use Rattle.std.proofs.lemmas.Bool.{cases_Bool, cond_both}
use Rattle.std.proofs.lemmas.Int.{ints}
use Rattle.std.specs.Prelude.{◌≡◌, ℕ, suc, zero, ◌≤◌, ℤ, pos, ◌+ℤ◌, ◌-ℤ◌, ◌≤ℤ◌, List, [], ◌∷◌, ◌++◌, length, Bool, true, false, cond, refl}
use Rattle.dn_arc_theory.specs.Pairs.{same_pair}
use Rattle.dn_arc_theory.proofs.PairLaws.{pair_is, pair_self}

abbrev pub Entries : Type 0
Entries = List ((ℤ × ℤ) × ℤ)

-- the sum of the numbers at the chosen pairs
abbrev pub sum_on : (ℤ × ℤ → Bool) → Entries → ℤ
sum_on chosen [] = pos 0
sum_on chosen (e ∷ rest) = cond (chosen e.0) e.1 (pos 0) +ℤ sum_on chosen rest

-- the entries at other pairs than q
abbrev others : ℤ × ℤ → Entries → Entries
others q [] = []
others q (e ∷ rest) = cond (same_pair q e.0) (others q rest) (e ∷ others q rest)

fewer : (q : ℤ × ℤ) (es : Entries) → length (others q es) ≤ length es
fewer q [] = omega arith
fewer q (e ∷ rest) = elim (cases_Bool (same_pair q e.0)) [
  | inl t ↦ rw t (omega (arith, fewer q rest))
  | inr t ↦ rw t (omega (arith, fewer q rest))
]

pub cond_none : (t : Bool) → cond t (pos 0) (pos 0) ≡ pos 0
cond_none true = refl
cond_none false = refl

pub cond_add : (t : Bool) (x y : ℤ) → cond t (x +ℤ y) (pos 0) ≡ cond t x (pos 0) +ℤ cond t y (pos 0)
cond_add true x y = refl
cond_add false x y = refl

-- the entries at q, and the others
parted : (chosen : ℤ × ℤ → Bool) (q : ℤ × ℤ) (es : Entries)
    → sum_on chosen es ≡ cond (chosen q) (sum_on (same_pair q) es) (pos 0) +ℤ sum_on chosen (others q es)
parted chosen q [] = rw (cond_none (chosen q))
parted chosen q (e ∷ rest) =
    let i = parted chosen q rest in
    let more = λ (n : ℤ). cond_add (chosen q) n (sum_on (same_pair q) rest) in
    elim (cases_Bool (same_pair q e.0)) [
      | inl t ↦ rw (t, ← pair_is q e.0 t) (omega (arith, ints, i, more e.1))
      | inr t ↦ rw t (omega (arith, ints, i, more (pos 0), cond_none (chosen q)))
    ]

-- the numbers of each chosen pair sum to at most 0
abbrev NoneOver : (ℤ × ℤ → Bool) → Entries → Type 0
NoneOver chosen es = (p : ℤ × ℤ) → chosen p ≡ true → sum_on (same_pair p) es ≤ℤ pos 0

others_none : (chosen : ℤ × ℤ → Bool) (q : ℤ × ℤ) (es : Entries) → NoneOver chosen es → NoneOver chosen (others q es)
others_none chosen q es n p c = elim (cases_Bool (same_pair p q)) [
  | inl t ↦ rw (pair_is p q t) (omega (arith, ints, rw (pair_self q) at (parted (same_pair q) q es)))
  | inr t ↦ omega (arith, ints, rw t at (parted (same_pair p) q es), n p c)
]

none_by : (fuel : ℕ) (chosen : ℤ × ℤ → Bool) (es : Entries) → length es ≤ fuel → NoneOver chosen es
    → sum_on chosen es ≤ℤ pos 0
none_by fuel chosen [] h n = omega (arith, ints)
none_by zero chosen (e ∷ rest) h n = absurd (omega arith)
none_by (suc fuel) chosen (e ∷ rest) h n =
    let short : length (others e.0 (e ∷ rest)) ≤ fuel = rw (pair_self e.0) (omega (arith, fewer e.0 rest)) in
    let here =
    cond_both (chosen e.0) (sum_on (same_pair e.0) (e ∷ rest)) (pos 0) (λ z. z ≤ℤ pos 0) (n e.0)
    (λ t. omega (arith, ints)) in
    let i = none_by fuel chosen (others e.0 (e ∷ rest)) short (others_none chosen e.0 (e ∷ rest) n) in
    omega (arith, ints, parted chosen e.0 (e ∷ rest))

abbrev negated : Entries → Entries
negated [] = []
negated (e ∷ rest) = (e.0, pos 0 -ℤ e.1) ∷ negated rest

minus : (chosen : ℤ × ℤ → Bool) (xs ys : Entries)
    → sum_on chosen (xs ++ negated ys) ≡ sum_on chosen xs -ℤ sum_on chosen ys
minus chosen [] [] = refl
minus chosen [] (y ∷ ys) = elim (cases_Bool (chosen y.0)) [
  | inl t ↦ rw t (omega (arith, ints, minus chosen [] ys))
  | inr t ↦ rw t (omega (arith, ints, minus chosen [] ys))
]
minus chosen (x ∷ xs) ys = omega (arith, ints, minus chosen xs ys)

-- if each chosen pair's numbers sum to no more in xs than in ys, so do those of all chosen pairs
pub sum_le : (xs ys : Entries) (chosen : ℤ × ℤ → Bool)
    → ((p : ℤ × ℤ) → chosen p ≡ true → sum_on (same_pair p) xs ≤ℤ sum_on (same_pair p) ys)
    → sum_on chosen xs ≤ℤ sum_on chosen ys
sum_le xs ys chosen h =
    let i = none_by (length (xs ++ negated ys)) chosen (xs ++ negated ys) (omega arith)
    (λ p e. omega (arith, ints, minus (same_pair p) xs ys, h p e)) in
    omega (arith, ints, minus chosen xs ys)

pub sum_eq : (xs ys : Entries) (chosen : ℤ × ℤ → Bool)
    → ((p : ℤ × ℤ) → chosen p ≡ true → sum_on (same_pair p) xs ≡ sum_on (same_pair p) ys)
    → sum_on chosen xs ≡ sum_on chosen ys
sum_eq xs ys chosen h =
    let up = sum_le xs ys chosen (λ p e. omega (arith, ints, h p e)) in
    let down = sum_le ys xs chosen (λ p e. omega (arith, ints, h p e)) in
    omega (arith, ints)
