-- The marks of the bytes that are not digits.
use Rattle.std.specs.Prelude.{◌≡◌, ℕ, ◌+◌, ◌-◌, ◌*◌, ◌^◌, ◌≤◌, List, length, take, map, not, Bool}
use Rattle.std.specs.Simd.Lanes.{mask_l}
use Rattle.dn_num.specs.Number.{is_digit}
use Rattle.dn_num.specs.declared.mask.Marks.{Marks}

-- a byte is not a digit
abbrev pub is_other : ℕ → Bool
is_other b = not (is_digit b)

-- these bytes begin at the place `from` of 32 marked bytes. From this bit on, the mask has a bit for each of the marked
-- bytes, which is set if the byte is not a digit. No lower bit is set
pub record AreMarks (bytes : List ℕ) (m : Marks) : Type 0 where
  pub within : m.from ≤ 32
  pub room : 32 ≤ m.from + length bytes
  pub bits : m.others ≡ 2 ^ m.from * mask_l (map is_other (take (32 - m.from) bytes))
