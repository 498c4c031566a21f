use Rattle.std.proofs.Common.{◌≡◌, ◌<◌, ◌≤◌, ◌⊎◌, inl, inr, sym, ap, ◌∙◌, arith, subst}
use Rattle.std.specs.Map.{keys_of}
use Rattle.std.proofs.lemmas.Bool.{cases_lt, false≢true}
use Rattle.std.proofs.lemmas.Map.Entries.{length-keys_of}
use Rattle.pair_index.specs.State.Positions.{key_at}
use Rattle.pair_index.proofs.ChainLaws.{key_of_position}
use Rattle.pair_index.proofs.runs.position_by_scan.Goals as goal

pub loop-i-preserved : goal.loop-i-preserved
loop-i-preserved g c k from lt = by_position (cases_lt k c.loop-i.i)
  where
    here : key_at (keys_of c.args.entries.now) c.loop-i.i ≡ c.args.pair.now → ⊥
    here e =
        let inside = subst (λ n. c.loop-i.i < n) (sym (length-keys_of c.args.entries.now)) c.loop-i-test.true in
        false≢true
        (c.if-is_pair.ensures.1
        (sym (key_of_position c.args.entries.now c.loop-i.i c.index-entries-i.result inside) ∙ e))

    by_position : (k < c.loop-i.i) ⊎ (c.loop-i.i ≤ k) → key_at (keys_of c.args.entries.now) k ≡ c.args.pair.now → ⊥
    by_position (inl l) e = c.loop-i.invariant k from l e
    by_position (inr l) e =
        let at : k ≡ c.loop-i.i = omega arith in
        here (ap (key_at (keys_of c.args.entries.now)) (sym at) ∙ e)
