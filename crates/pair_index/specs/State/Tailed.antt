-- Positions linked in chains, by tail and then by ascending head. Only the proofs of this crate use these definitions.
use Rattle.std.specs.Prelude.{◌≡◌, ℕ, suc, ◌<◌, ◌-◌, ◌^◌, ℤ, pos, ◌<ℤ◌, ◌≤ℤ◌, ◌⊎◌, List, length, get_or, vec_capacity}
use Rattle.pair_index.specs.State.Positions.{key_at}
use Rattle.pair_index.specs.declared.tails.Tails.{Tails}
use Rattle.pair_index.specs.declared.tails.Spot.{Spot}

-- the second pair has the same tail and a greater head
abbrev pub IsAfter : ℤ × ℤ → ℤ × ℤ → Type 0
IsAfter p q = (q.0 ≡ p.0) × (p.1 <ℤ q.1)

-- the link leads to the position with the least head of the keys that satisfy `Asked`, or is 0 if no key does
pub record LeadsTo (keys : List (ℤ × ℤ)) (Asked : ℤ × ℤ → Type 0) (link : ℕ) : Type 0 where
  pub there : (i : ℕ) → link ≡ suc i → (i < length keys) × Asked (key_at keys i)
  pub least : (i : ℕ) → i < length keys → Asked (key_at keys i)
      → (j : ℕ) × (link ≡ suc j) × ((key_at keys j).1 ≤ℤ (key_at keys i).1)

-- the links of all positions are right
pub record Links (heads next : List ℕ) (keys : List (ℤ × ℤ)) : Type 0 where
  pub same : length next ≡ length keys
  pub apart : (i j : ℕ) → i < length keys → j < length keys → key_at keys i ≡ key_at keys j → i ≡ j
  pub tails : (i : ℕ) → i < length keys → (t : ℕ) × (t < length heads) × ((key_at keys i).0 ≡ pos t)
  pub at_head : (t : ℕ) → t < length heads → LeadsTo keys (λ p. p.0 ≡ pos t) (get_or heads t 0)
  pub at_next : (i : ℕ) → i < length keys → LeadsTo keys (IsAfter (key_at keys i)) (get_or next i 0)

-- the chains link the positions of all keys
abbrev pub IsTailed : Tails → List (ℤ × ℤ) → Type 0
IsTailed tails keys = Links tails.heads.items tails.next.items keys

-- the search for the pair has passed a position of its tail with a lesser head, and continues at the link
pub record Passed (keys : List (ℤ × ℤ)) (pair : ℤ × ℤ) (before link : ℕ) : Type 0 where
  pub at : ℕ
  pub is : before ≡ suc at
  pub inside : at < length keys
  pub tail : (key_at keys at).0 ≡ pair.0
  pub below : (key_at keys at).1 <ℤ pair.1
  pub on : LeadsTo keys (IsAfter (key_at keys at)) link

-- the search for the pair has passed no position, and begins at the link
pub record Begins (keys : List (ℤ × ℤ)) (pair : ℤ × ℤ) (before link : ℕ) : Type 0 where
  pub is : before ≡ 0
  pub on : LeadsTo keys (λ p. p.0 ≡ pair.0) link

abbrev pub Sought : List (ℤ × ℤ) → ℤ × ℤ → ℕ → ℕ → Type 0
Sought keys pair before link = Begins keys pair before link ⊎ Passed keys pair before link

-- the spot is where the pair belongs in the chain of its tail
pub record IsSpot (keys : List (ℤ × ℤ)) (pair : ℤ × ℤ) (spot : Spot) : Type 0 where
  pub sought : Sought keys pair spot.before spot.after
  pub stops : (i : ℕ) → spot.after ≡ suc i → pair.1 ≤ℤ (key_at keys i).1

-- the pair's tail has a chain, there is spare capacity for one more link, and a link of 32 bits can name one more
-- position
pub record HasRoomFor (tails : Tails) (pair : ℤ × ℤ) : Type 0 where
  pub tail : ℕ
  pub is : pair.0 ≡ pos tail
  pub known : tail < length tails.heads.items
  pub spare : length tails.next.items < vec_capacity tails.next
  pub named : length tails.next.items < 2 ^ 32 - 1
