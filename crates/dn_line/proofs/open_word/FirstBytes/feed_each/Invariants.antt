use Rattle.std.proofs.Common.{◌≡◌, ℕ, List, ◌++◌, take}
use Rattle.dn_line.specs.State.OpenWords.{first_bytes}
use Rattle.dn_line.proofs.open_word.FirstBytes.feed_each.Given as goal

abbrev pub invariant-loop-byte : goal.invariant-loop-byte
invariant-loop-byte l =
    (w : List ℕ) → l.fn.self ≡ first_bytes w → l.first ≡ first_bytes (w ++ take l.byte-index l.bytes)
