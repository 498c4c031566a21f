use Rattle.std.proofs.Common.{to_z, of_z, w64, ◌≡◌, ◌+◌, ◌-◌, ◌<◌, ℕ, ℤ, zero, suc, pos, List, [], ◌∷◌, length, get_or, set, take, drop, refl, arith, append_assoc, ◌∙◌}
use Rattle.std.proofs.lemmas.Grind.{take-set_at}
use Rattle.std.proofs.lemmas.Int.{ints}
use Rattle.std.proofs.lemmas.List.{drop-set-lt, length-set}
use Rattle.std.proofs.lemmas.List.Elements.{All-set}
use Rattle.std.specs.List.{All, AllByRecursion}
use Rattle.dn_line.specs.State.Numbers.{AreNumbers}
use Rattle.dn_line.specs.State.Rows.{HasNumbers}
use Rattle.dn_line.proofs.NumbersLaws.{Kept, last_number, more_numbers}
use Rattle.dn_line.proofs.row.numbers.Goals as goal

abbrev Zeros : List ℤ → Type 0
Zeros ns = AllByRecursion (λ n. n ≡ pos 0) ns

zeros_after : (i : ℕ) (ns : List ℤ) → Zeros (drop i ns) → Zeros (drop (suc i) ns)
zeros_after zero [] h = tt
zeros_after zero (n ∷ ns) h = h.1
zeros_after (suc i) [] h = tt
zeros_after (suc i) (n ∷ ns) h = zeros_after i ns h

-- zeros from a place on remain zeros after it if the number at the place changes
zeros_set : (i j : ℕ) (ns : List ℤ) (v : ℤ) → j ≡ suc i → Zeros (drop i ns) → Zeros (drop j (set ns i v))
zeros_set i j ns v e h = rw e (rw (drop-set-lt (suc i) ns i v (omega arith)) (zeros_after i ns h))

-- the number at a place of a row, after a conversion
abbrev number_at : List ℤ → ℕ → ℤ
number_at ns i = to_z w64 (of_z w64 (get_or ns i (pos 0)))

-- five numbers that begin with those of a line and end with zeros are the row of the line
row_of : (count : ℕ) (ns : List ℤ) (bytes rest : List ℕ) → length ns ≡ 5 → All Kept ns
    → AreNumbers bytes (take count ns) rest → Zeros (drop count ns)
    → HasNumbers count bytes (record {
      first = number_at ns 0;
      second = number_at ns 1;
      third = number_at ns 2;
      fourth = number_at ns 3;
      fifth = number_at ns 4;
    }) rest
row_of count (a ∷ b ∷ c ∷ d ∷ e ∷ []) bytes rest five kept are zeros =
    let at : (i : ℕ) → i < 5 → Kept (get_or (a ∷ b ∷ c ∷ d ∷ e ∷ []) i (pos 0)) = λ i lt. kept i (pos 0) lt in
    rw (at 0 (omega arith), at 1 (omega arith), at 2 (omega arith), at 3 (omega arith), at 4 (omega arith))
    (record { numbers = are; others = zeros })
row_of count ns bytes rest five kept are zeros = absurd (omega arith)

pub loop-i-preserved : goal.loop-i-preserved
loop-i-preserved c =
    let before = c.loop-i.invariant in
    let i = c.loop-i.i in
    let n = c.in_ok-front.front.number in
    let v : ℤ = to_z w64 (of_z w64 n) in
    let kept : Kept n = omega (arith, ints) in
    let inside : i < length c.loop-i.all = omega arith in
    record {
      five = length-set c.loop-i.all i v ∙ before.five;
      kept = All-set Kept c.loop-i.all i v (rw kept kept) before.kept;
      more = λ ns end are.
          rw (take-set_at c.loop-i.all i (i + 1) v refl inside, append_assoc)
          (before.more (v ∷ ns) end (more_numbers c.in_ok-front.ensures kept are));
      others = zeros_set i (i + 1) c.loop-i.all v (omega arith) before.others;
    }

pub returns : goal.returns
returns c =
    let before = c.loop-i.invariant in
    let i = c.loop-i.i in
    let n = c.in_ok-front-2.front.number in
    let v : ℤ = to_z w64 (of_z w64 n) in
    let kept : Kept n = omega (arith, ints) in
    let last : i ≡ c.args.count - 1 = omega (arith, c.loop-i.auto.i-end) in
    let count : c.args.count ≡ i + 1 = omega arith in
    let all : List ℤ = set c.loop-i.all i v in
    rw (← last)
    (row_of c.args.count all c.args.bytes.now _ (length-set c.loop-i.all i v ∙ before.five)
    (All-set Kept c.loop-i.all i v (rw kept kept) before.kept)
    (rw (take-set_at c.loop-i.all i c.args.count v count (omega arith))
    (before.more (v ∷ []) _ (last_number c.in_ok-front-2.ensures kept c.in_ok-after_line_end.ensures)))
    (zeros_set i c.args.count c.loop-i.all v (omega arith) before.others))
