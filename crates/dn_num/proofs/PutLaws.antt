-- Writing a word into bytes.
use Rattle.std.proofs.Common.{◌≡◌, ℕ, ◌+◌, ◌<◌, ◌≤◌, List, [], ◌∷◌, ◌++◌, zero, suc, refl, ap, ◌∙◌, arith, length, take, drop}
use Rattle.std.proofs.lemmas.List.{take-append-le, length-take-le}
use Rattle.std.proofs.Math.Seq.{take-append-add}
use Rattle.std.proofs.lemmas.Simd.{put_chunk_is}
use lib.Lanes.{digits_l, put_chunk}
use Rattle.std.specs.Simd.Lanes.{Each1, number_l}
use Rattle.dn_num.proofs.LaneLaws.{low, high}

-- the first lanes of a word are the bytes that it was made of
lanes_back : (k : ℕ) (cs : List ℕ) → length cs ≤ k → Each1 (λ c. c < 256) cs
    → take (length cs) (digits_l 256 k (number_l 256 cs)) ≡ cs
lanes_back k [] h each = refl
lanes_back zero (c ∷ cs) h each = absurd (omega arith)
lanes_back (suc k) (c ∷ cs) h each =
    let n : ℕ = number_l 256 cs in
    rw (low 8 c n each.0, high 8 c n each.0, lanes_back k cs (omega arith) each.1)

-- the bytes after a word has been written
pub word_put : (at w : ℕ) (bytes cs : List ℕ) → at + 8 ≤ length bytes → length cs ≤ 8 → Each1 (λ c. c < 256) cs
    → w ≡ number_l 256 cs
    → take (at + length cs) (put_chunk at bytes (digits_l 256 8 (w + 0))) ≡ take at bytes ++ cs
word_put at w bytes cs h short each is =
    let word : List ℕ = digits_l 256 8 (w + 0) in
    let long : length (take at bytes) ≡ at = length-take-le at bytes (omega arith) in
    let rest : List ℕ = word ++ drop (length word) (drop at bytes) in
    let same : w + 0 ≡ number_l 256 cs = omega arith in
    rw (put_chunk_is at bytes word h, rw long at (take-append-add (take at bytes) rest (length cs)))
    (ap (λ l. take at bytes ++ l)
    (take-append-le (length cs) word (drop (length word) (drop at bytes)) short
    ∙ rw same (lanes_back 8 cs short each)))
