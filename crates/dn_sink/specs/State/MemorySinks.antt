-- What the sinks in memory hold.
use Rattle.std.specs.Prelude.{ℕ, ◌-◌, List, ◌++◌, length, take, min, Bool, ◌&&◌, ◌||◌, nat_eq, nat_lt}

-- the bytes taken, the capacity of the vector that keeps them, and whether the sink has failed
pub record Taken : Type 0 where
  pub bytes : List ℕ
  pub capacity : ℕ
  pub failed : Bool

-- the size of a slice in bytes, the bytes of it that were filled, and whether the sink has failed
pub record Filled : Type 0 where
  pub size : ℕ
  pub bytes : List ℕ
  pub failed : Bool

-- how many bytes of a piece fit into the slice
abbrev pub room_for : Filled → List ℕ → ℕ
room_for f piece = min (f.size - length f.bytes) (length piece)

-- the slice after a put: it takes as many bytes as fit, and has failed if it takes none of a non-empty piece
abbrev pub filled : Filled → List ℕ → Filled
filled f piece = record {
  size = f.size;
  bytes = f.bytes ++ take (room_for f piece) piece;
  failed = f.failed || (nat_eq (room_for f piece) 0 && nat_lt 0 (length piece));
}
