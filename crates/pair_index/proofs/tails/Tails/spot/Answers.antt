use Rattle.std.proofs.Common.{◌≡◌, ◌-◌, refl, arith}
use Rattle.std.specs.Map.{keys_of}
use Rattle.std.proofs.lemmas.Bool.{false≢true}
use Rattle.pair_index.specs.State.Positions.{key_at}
use Rattle.std.proofs.lemmas.Map.Entries.{length-keys_of}
use Rattle.std.proofs.lemmas.List.{get_or_read}
use Rattle.pair_index.proofs.ChainLaws.{key_of_position}
use Rattle.pair_index.proofs.TailLaws.{sought_inside, sought_on, falls, has_next, past_head}
use Rattle.pair_index.proofs.tails.Tails.spot.Goals as goal

pub offset_bounds-entries-at : goal.offset_bounds-entries-at
offset_bounds-entries-at g c =
    let in_keys = (sought_inside c.args.pair.now c.loop-after.before c.loop-after.after c.loop-after-test.true
    c.loop-after.invariant).0 in
    omega (arith, in_keys, length-keys_of c.args.entries.now)

pub bounds-entries-at : goal.bounds-entries-at
bounds-entries-at g c =
    let in_keys = (sought_inside c.args.pair.now c.loop-after.before c.loop-after.after c.loop-after-test.true
    c.loop-after.invariant).0 in
    omega (arith, in_keys, length-keys_of c.args.entries.now)

pub index-after-requires : goal.index-after-requires
index-after-requires g c =
    let in_keys = (sought_inside c.args.pair.now c.loop-after.before c.loop-after.after c.loop-after-test.true
    c.loop-after.invariant).0 in
    rw c.args.self.now.next.ok.0 (has_next c.requires in_keys)

pub loop-after-smaller : goal.loop-after-smaller
loop-after-smaller g c =
    let self = c.args.self.now in
    let in_keys = (sought_inside c.args.pair.now c.loop-after.before c.loop-after.after c.loop-after-test.true
    c.loop-after.invariant).0 in
    falls self.heads.items self.next.items (keys_of c.args.entries.now) c.requires c.loop-after.after
    c.index-after.result.now c.loop-after-test.true in_keys
    (get_or_read self.next.items (c.loop-after.after - 1) c.index-after.result.now
    (has_next c.requires in_keys) c.index-after.ensures 0)

pub loop-after-preserved : goal.loop-after-preserved
loop-after-preserved g c =
    let self = c.args.self.now in
    let in_keys = (sought_inside c.args.pair.now c.loop-after.before c.loop-after.after c.loop-after-test.true
    c.loop-after.invariant).0 in
    sought_on self.heads.items self.next.items (keys_of c.args.entries.now) c.requires c.args.pair.now
    c.loop-after.before c.loop-after.after c.index-after.result.now c.loop-after-test.true c.loop-after.invariant
    (past_head c.args.pair.now.1 (key_at (keys_of c.args.entries.now) (c.loop-after.after - 1)).1
    (λ h. false≢true (c.if-is_head_upto.ensures.1
    (rw (key_of_position c.args.entries.now (c.loop-after.after - 1) c.index-entries-at.result in_keys) at h))))
    (get_or_read self.next.items (c.loop-after.after - 1) c.index-after.result.now
    (has_next c.requires in_keys) c.index-after.ensures 0)

pub returns-then-is_head_upto : goal.returns-then-is_head_upto
returns-then-is_head_upto g c =
    let in_keys = (sought_inside c.args.pair.now c.loop-after.before c.loop-after.after c.loop-after-test.true
    c.loop-after.invariant).0 in
    record {
      sought = c.loop-after.invariant;
      stops = λ i e. (let at : c.loop-after.after - 1 ≡ i = omega (arith, e) in
          rw (← at) (rw (key_of_position c.args.entries.now (c.loop-after.after - 1) c.index-entries-at.result in_keys)
          (c.if-is_head_upto.ensures.0 refl)));
    }
