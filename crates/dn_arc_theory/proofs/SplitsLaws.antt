-- An amount that has a split has a least cost. Arcs mean the same exactly if they carry each amount at no more than the
-- same costs.
use Rattle.std.proofs.Common.{◌≡◌, ℕ, suc, zero, ℤ, pos, negsuc, ◌+ℤ◌, ◌-ℤ◌, ◌*ℤ◌, ◌≤ℤ◌, List, [], ◌∷◌, refl, ◌⊎◌, inl, inr, sym, ap, subst, arith}
use Rattle.std.proofs.lemmas.Int.{ints, by_lt_z}
use Rattle.std.specs.Int.Signed.{≤ℤ_refl}
use Rattle.dn_arc_theory.specs.declared.arc.CostArc.{CostArc}
use Rattle.dn_arc_theory.specs.Splits.{total, IsSplit, cost_of, LeastCost}
use Rattle.dn_arc_theory.specs.Meanings.{SameCurve}
use Rattle.dn_arc_theory.proofs.SharesLaws.{Share, IsNothing, AtMost, more, same_share}

-- a split of the amount that costs at most k
pub record Within (arcs : List CostArc) (x k : ℤ) : Type 0 where
  pub split : List ℤ
  pub is : IsSplit arcs x split
  pub costs : cost_of arcs split ≤ℤ k

pub split_at_most : (arcs : List CostArc) (xs : List ℤ) (x : ℤ) → IsSplit arcs x xs → AtMost arcs x (cost_of arcs xs)
split_at_most [] [] x s = record { amount = sym s.whole; within = ≤ℤ_refl _ }
split_at_most [] (y ∷ ys) x s = absurd s.shares
split_at_most (a ∷ as') [] x s = absurd s.shares
split_at_most (a ∷ as') (y ∷ ys) x s = record {
  share = y;
  other = total ys;
  spent = cost_of as' ys;
  low_is = s.shares.0;
  cap_is = s.shares.1;
  amount = sym s.whole;
  within = ≤ℤ_refl _;
  rest = split_at_most as' ys (total ys) (record { shares = s.shares.2; whole = refl });
}

pub at_most_split : (arcs : List CostArc) (x k : ℤ) → AtMost arcs x k → Within arcs x k
at_most_split [] x k s = record { split = []; is = record { shares = tt; whole = sym s.amount }; costs = s.within }
at_most_split (a ∷ rest) x k s =
    let w = at_most_split rest s.other s.spent s.rest in
    record {
      split = s.share ∷ w.split;
      is = record { shares = (s.low_is, s.cap_is, w.is.shares); whole = omega (arith, ints) };
      costs = omega (arith, ints);
    }

-- k is the least cost for which the relation holds
pub record Bottom (R : ℤ → ℤ → Type 0) (x k : ℤ) : Type 0 where
  pub at : R x k
  pub least : (j : ℤ) → R x j → k ≤ℤ j

pub least_bottom : (arcs : List CostArc) (x k : ℤ) → LeastCost arcs x k → Bottom (AtMost arcs) x k
least_bottom arcs x k l = record {
  at = rw (← l.costs) (split_at_most arcs l.split x l.is);
  least = λ j r.
      let w = at_most_split arcs x j r in
      omega (arith, ints, l.least w.split w.is);
}

pub antisym : (a b : ℤ) → a ≤ℤ b → b ≤ℤ a → a ≡ b
antisym a b h g = omega (arith, ints)

pub bottom_least : (arcs : List CostArc) (x k : ℤ) → Bottom (AtMost arcs) x k → LeastCost arcs x k
bottom_least arcs x k b =
    let w = at_most_split arcs x k b.at in
    record {
      split = w.split;
      is = w.is;
      costs = antisym (cost_of arcs w.split) k w.costs (b.least _ (split_at_most arcs w.split x w.is));
      least = λ ys s. b.least _ (split_at_most arcs ys x s);
    }

-- there is no cost, or there is a least one
abbrev pub Found : (ℤ → ℤ → Type 0) → ℤ → Type 0
Found R x = ((k : ℤ) → R x k → ⊥) ⊎ ((k : ℤ) × Bottom R x k)

-- an arc that takes exactly its LOW leaves the least cost of the rest
one_share : (low cost : ℤ) (R : ℤ → ℤ → Type 0) (x : ℤ) → Found R (x -ℤ low) → Found (Share low low cost R) x
one_share low cost R x (inl never) = inl (λ k s.
    let same : s.other ≡ x -ℤ low = omega (arith, ints) in
    never s.spent (rw same at s.rest))
one_share low cost R x (inr b) = inr (
  (cost *ℤ low) +ℤ b.0,
  record {
    at = record {
      share = low;
      other = x -ℤ low;
      spent = b.0;
      low_is = ≤ℤ_refl _;
      cap_is = ≤ℤ_refl _;
      amount = omega (arith, ints);
      within = ≤ℤ_refl _;
      rest = b.1.at;
    };
    least = λ j s.
        let is_low : s.share ≡ low = omega (arith, ints) in
        let same : s.other ≡ x -ℤ low = omega (arith, ints) in
        let h = b.1.least s.spent (rw same at s.rest) in
        omega (arith, ints, rw is_low at s.within);
  },
)

-- a cost that is at most each cost of both relations is the least
lesser : (P Q R : ℤ → ℤ → Type 0) (x a : ℤ) → R x a → ((k : ℤ) → R x k → P x k ⊎ Q x k)
    → ((j : ℤ) → P x j → a ≤ℤ j) → ((j : ℤ) → Q x j → a ≤ℤ j) → Found R x
lesser P Q R x a at h p q =
    inr (a, record { at = at; least = λ j r. elim (h j r) [ inl s ↦ p j s | inr s ↦ q j s ] })

-- the lesser of two least costs
best_of : (P Q R : ℤ → ℤ → Type 0) (x : ℤ) → ((k : ℤ) → P x k → R x k) → ((k : ℤ) → Q x k → R x k)
    → ((k : ℤ) → R x k → P x k ⊎ Q x k) → Found P x → Found Q x → Found R x
best_of P Q R x f g h (inl never) (inl none) = inl (λ k r. elim (h k r) [ inl p ↦ never k p | inr q ↦ none k q ])
best_of P Q R x f g h (inl never) (inr b) =
    lesser P Q R x b.0 (g b.0 b.1.at) h (λ j p. absurd (never j p)) b.1.least
best_of P Q R x f g h (inr a) (inl none) =
    lesser P Q R x a.0 (f a.0 a.1.at) h a.1.least (λ j q. absurd (none j q))
best_of P Q R x f g h (inr a) (inr b) =
    by_lt_z a.0 b.0
    (λ lt. lesser P Q R x a.0 (f a.0 a.1.at) h a.1.least (λ j q. omega (arith, ints, b.1.least j q)))
    (λ le. lesser P Q R x b.0 (g b.0 b.1.at) h (λ j p. omega (arith, ints, a.1.least j p)) b.1.least)

wider : (l c m d p : ℤ) (R : ℤ → ℤ → Type 0) → m ≤ℤ l → c ≤ℤ d → (x k : ℤ) → Share l c p R x k → Share m d p R x k
wider l c m d p R h g x k s = same_share s (omega (arith, ints)) (omega (arith, ints)) s.amount s.within s.rest

cut : (low mid cap cost : ℤ) (R : ℤ → ℤ → Type 0) (x k : ℤ) → Share low cap cost R x k
    → Share low mid cost R x k ⊎ Share (mid +ℤ pos 1) cap cost R x k
cut low mid cap cost R x k s =
    by_lt_z mid s.share (λ lt. inr (same_share s (omega (arith, ints)) s.cap_is s.amount s.within s.rest))
    (λ le. inl (same_share s s.low_is le s.amount s.within s.rest))

some_share : (n : ℕ) (low cap cost : ℤ) → cap ≡ low +ℤ pos n → (R : ℤ → ℤ → Type 0) → ((y : ℤ) → Found R y) → (x : ℤ)
    → Found (Share low cap cost R) x
some_share zero low cap cost e R f x =
    let same : low ≡ cap = omega (arith, ints) in
    subst (λ c. Found (Share low c cost R) x) same (one_share low cost R x (f (x -ℤ low)))
some_share (suc n) low cap cost e R f x =
    let h1 : (low +ℤ pos n) +ℤ pos 1 ≡ cap = omega (arith, ints) in
    let h2 : (low +ℤ pos n) ≤ℤ cap = omega (arith, ints) in
    let h3 : low ≤ℤ cap = omega (arith, ints) in
    best_of (Share low (low +ℤ pos n) cost R) (Share cap cap cost R) (Share low cap cost R) x
    (wider low (low +ℤ pos n) low cap cost R (≤ℤ_refl low) h2 x)
    (wider cap cap low cap cost R h3 (≤ℤ_refl cap) x)
    (λ k s. subst (λ c. Share low (low +ℤ pos n) cost R x k ⊎ Share c cap cost R x k) h1
    (cut low (low +ℤ pos n) cap cost R x k s))
    (some_share n low (low +ℤ pos n) cost refl R f x)
    (one_share cap cost R x (f (x -ℤ cap)))

abbrev length_of : ℤ → ℕ
length_of (pos n) = n
length_of (negsuc n) = zero

length_is : (z : ℤ) → pos 0 ≤ℤ z → z ≡ pos (length_of z)
length_is (pos n) h = refl
length_is (negsuc n) h = absurd (omega (arith, ints))

any_share : (low cap cost : ℤ) (R : ℤ → ℤ → Type 0) → ((y : ℤ) → Found R y) → (x : ℤ) → Found (Share low cap cost R) x
any_share low cap cost R f x =
    by_lt_z cap low
    (λ lt. inl (λ k s. absurd (omega (arith, ints))))
    (λ le.
    let h = length_is (cap -ℤ low) (omega (arith, ints)) in
    some_share (length_of (cap -ℤ low)) low cap cost (omega (arith, ints, ap (λ z. low +ℤ z) h)) R f x)

nothing_found : (x : ℤ) → Found IsNothing x
nothing_found x =
    by_lt_z x (pos 0)
    (λ lt. inl (λ k s. absurd (omega (arith, ints))))
    (λ le. by_lt_z (pos 0) x
    (λ gt. inl (λ k s. absurd (omega (arith, ints))))
    (λ ge. inr
    (pos 0, record { at = record { amount = omega (arith, ints); within = ≤ℤ_refl _ }; least = λ j s. s.within })))

-- an amount has no cost, or it has a least one
pub least_of : (arcs : List CostArc) (x : ℤ) → Found (AtMost arcs) x
least_of [] x = nothing_found x
least_of (a ∷ rest) x = any_share a.low a.cap a.cost (AtMost rest) (least_of rest) x

-- an amount that can be split has a least cost
pub some_least : (arcs : List CostArc) (x : ℤ) (xs : List ℤ) → IsSplit arcs x xs → (k : ℤ) × LeastCost arcs x k
some_least arcs x xs s = by_found (least_of arcs x)
  where
    by_found : Found (AtMost arcs) x → (k : ℤ) × LeastCost arcs x k
    by_found (inl never) = absurd (never _ (split_at_most arcs xs x s))
    by_found (inr found) = (found.0, bottom_least arcs x found.0 found.1)

-- two lists carry each amount at no more than the same costs
pub record SameAbove (xs ys : List CostArc) : Type 0 where
  pub there : (x k : ℤ) → AtMost xs x k → AtMost ys x k
  pub back : (x k : ℤ) → AtMost ys x k → AtMost xs x k

one_above : (xs ys : List CostArc) → ((x k : ℤ) → LeastCost xs x k → LeastCost ys x k) → (x k : ℤ) → AtMost xs x k
    → AtMost ys x k
one_above xs ys f x k s = elim (least_of xs x) [
  | inl never ↦ absurd (never k s)
  | inr b ↦ more ys x b.0 k (b.1.least k s) (least_bottom ys x b.0 (f x b.0 (bottom_least xs x b.0 b.1))).at
]

pub above : (xs ys : List CostArc) → SameCurve xs ys → SameAbove xs ys
above xs ys s = record { there = one_above xs ys s.there; back = one_above ys xs s.back }

one_same : (xs ys : List CostArc) → SameAbove xs ys → (x k : ℤ) → LeastCost xs x k → LeastCost ys x k
one_same xs ys s x k l =
    let b = least_bottom xs x k l in
    bottom_least ys x k (record { at = s.there x k b.at; least = λ j r. b.least j (s.back x j r) })

pub same : (xs ys : List CostArc) → SameAbove xs ys → SameCurve xs ys
same xs ys s = record { there = one_same xs ys s; back = one_same ys xs (record { there = s.back; back = s.there }) }
