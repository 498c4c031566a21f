use Rattle.std.proofs.Common.{◌≡◌, ℕ, ◌-◌, ◌<◌, ◌≤◌, ℤ, length, ◌⊎◌, inl, inr, ap, ◌∙◌, arith}
use Rattle.std.specs.Map.{keys_of}
use Rattle.std.proofs.lemmas.Bool.{cases_lt}
use Rattle.pair_index.specs.State.Positions.{key_at}
use Rattle.pair_index.proofs.ChainLaws.{key_of_position}
use Rattle.pair_index.proofs.runs.begin_of.Goals as goal

pub loop-begin-preserved : goal.loop-begin-preserved
loop-begin-preserved g c =
    let begin = c.loop-begin.begin in
    let within = c.loop-begin.invariant.within in
    let some = c.loop-begin-test.true in
    record { within = omega arith; from = λ i from lt. by_position i from lt (cases_lt i begin) }
  where
    by_position : (i : ℕ) → c.loop-begin.begin - 1 ≤ i → i < length (keys_of c.args.entries.now)
        → (i < c.loop-begin.begin) ⊎ (c.loop-begin.begin ≤ i)
        → (key_at (keys_of c.args.entries.now) i).0 ≡ c.args.pair.now.0
    by_position i from lt (inr l) = c.loop-begin.invariant.from i l lt
    by_position i from lt (inl l) =
        let at : i ≡ c.loop-begin.begin - 1 = omega arith in
        ap (λ j. (key_at (keys_of c.args.entries.now) j).0) at
        ∙ ap (λ (k : ℤ × ℤ). k.0)
        (key_of_position c.args.entries.now (c.loop-begin.begin - 1) c.index-entries-begin.result
        (omega (arith, c.loop-begin.invariant.within, c.loop-begin-test.true)))
        ∙ c.is_tail.ensures.0 c.if-not-is_tail.false
