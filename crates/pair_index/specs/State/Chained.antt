-- Positions linked in chains, by bucket. Only the proofs of this crate use these definitions.
use Rattle.std.specs.Prelude.{◌≡◌, ℕ, suc, ◌<◌, ◌≤◌, ◌-◌, ◌^◌, ℤ, List, length, get_or, vec_capacity}
use Rattle.pair_index.specs.State.Buckets.{bucket_of}
use Rattle.pair_index.specs.State.Positions.{key_at}
use Rattle.pair_index.specs.declared.chains.Chains.{Chains}

-- the link leads to the last position below `below` whose pair is in this bucket, or is 0 if there is none
pub record LinksTo (count : ℕ) (keys : List (ℤ × ℤ)) (below bucket link : ℕ) : Type 0 where
  pub bound : link ≤ below
  pub there : (i : ℕ) → link ≡ suc i → bucket_of count (key_at keys i) ≡ bucket
  pub past : (i : ℕ) → i < below → bucket_of count (key_at keys i) ≡ bucket → i < link

-- the links of all positions are right
pub record Links (heads next : List ℕ) (keys : List (ℤ × ℤ)) : Type 0 where
  pub some : 0 < length heads
  pub same : length next ≡ length keys
  pub at_head : (b : ℕ) → b < length heads → LinksTo (length heads) keys (length keys) b (get_or heads b 0)
  pub at_next : (i : ℕ) → i < length keys
      → LinksTo (length heads) keys i (bucket_of (length heads) (key_at keys i)) (get_or next i 0)

-- the chains link the positions of all keys
abbrev pub IsChained : Chains → List (ℤ × ℤ) → Type 0
IsChained chains keys = Links chains.heads.items chains.next.items keys

-- there are buckets, there is spare capacity for one more link, and a link of 32 bits can name one more position
pub record HasRoomForOne (chains : Chains) : Type 0 where
  pub some : 0 < length chains.heads.items
  pub spare : length chains.next.items < vec_capacity chains.next
  pub named : length chains.next.items < 2 ^ 32 - 1

-- the pair, if it is there, is at a position below the link, and the link leads along the chain of its bucket
pub record Sought (count : ℕ) (keys : List (ℤ × ℤ)) (pair : ℤ × ℤ) (link : ℕ) : Type 0 where
  pub bound : link ≤ length keys
  pub there : (i : ℕ) → link ≡ suc i → bucket_of count (key_at keys i) ≡ bucket_of count pair
  pub past : (i : ℕ) → i < length keys → key_at keys i ≡ pair → i < link
