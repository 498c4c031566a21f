use Rattle.std.proofs.Common.{◌-◌, ◌∙◌, sym, refl, arith}
use Rattle.std.specs.Map.{keys_of}
use Rattle.std.proofs.lemmas.Bool.{false≢true}
use Rattle.std.proofs.lemmas.Map.Entries.{length-keys_of}
use Rattle.pair_index.proofs.ChainLaws.{key_of_position}
use Rattle.pair_index.proofs.TailLaws.{sought_inside, nowhere_past, nowhere_else}
use Rattle.pair_index.proofs.tails.Tails.find.Goals as goal

pub offset_bounds-entries-at : goal.offset_bounds-entries-at
offset_bounds-entries-at g c =
    let spot = c.spot-link.result in
    let in_keys =
    (sought_inside c.args.pair.now spot.before spot.after c.if-link-eq0.false c.spot-link.ensures.sought).0 in
    omega (arith, in_keys, length-keys_of c.args.entries.now)

pub bounds-entries-at : goal.bounds-entries-at
bounds-entries-at g c =
    let spot = c.spot-link.result in
    let in_keys =
    (sought_inside c.args.pair.now spot.before spot.after c.if-link-eq0.false c.spot-link.ensures.sought).0 in
    omega (arith, in_keys, length-keys_of c.args.entries.now)

pub returns-then-is_pair : goal.returns-then-is_pair
returns-then-is_pair g c =
    let spot = c.spot-link.result in
    let in_keys =
    (sought_inside c.args.pair.now spot.before spot.after c.if-link-eq0.false c.spot-link.ensures.sought).0 in (
      in_keys,
      key_of_position c.args.entries.now (spot.after - 1) c.index-entries-at.result in_keys
          ∙ c.if-is_pair.ensures.0 refl,
    )

pub returns-else-is_pair : goal.returns-else-is_pair
returns-else-is_pair g c =
    let spot = c.spot-link.result in
    let in_keys =
    (sought_inside c.args.pair.now spot.before spot.after c.if-link-eq0.false c.spot-link.ensures.sought).0 in
    nowhere_else (keys_of c.args.entries.now) c.args.pair.now spot.before spot.after c.spot-link.ensures.stops
    c.spot-link.ensures.sought c.if-link-eq0.false
    (λ e. false≢true
    (c.if-is_pair.ensures.1
    (sym (key_of_position c.args.entries.now (spot.after - 1) c.index-entries-at.result in_keys) ∙ e)))

pub returns-then-link-eq0 : goal.returns-then-link-eq0
returns-then-link-eq0 g c =
    let spot = c.spot-link.result in
    nowhere_past (keys_of c.args.entries.now) c.args.pair.now spot.before spot.after c.spot-link.ensures.stops
    c.spot-link.ensures.sought c.if-link-eq0.true
