use Rattle.std.proofs.Common.{rules, ap, ◌∙◌, of_z, w64}
use Rattle.std.proofs.lemmas.Int.{to_z-of_z}
use Rattle.dn_bundle.proofs.ShapeLaws.{nothing_grown}
use Rattle.dn_bundle.proofs.curve.shape.Shape.add.Goals as goal

pub with-requires-clause-sound : goal.with-requires-clause-sound
with-requires-clause-sound c = rw (c.one-one.ensures _ _ _ c.in-Plain.is) at c.requires.sound

pub with-requires-clause-fits : goal.with-requires-clause-fits
with-requires-clause-fits c = rw (c.requires.total, c.one-one.ensures _ _ _ c.in-Plain.is) at c.ranges.total

pub past_one-requires-clause-sound : goal.past_one-requires-clause-sound
past_one-requires-clause-sound c = rw (c.one-one.ensures _ _ _ c.in-Plain.is) at c.requires.sound

pub past_one-requires-clause-total : goal.past_one-requires-clause-total
past_one-requires-clause-total c =
    to_z-of_z w64 c.args.total c.ranges.total ∙ rw (c.one-one.ensures _ _ _ c.in-Plain.is) at c.requires.total

pub past_one-requires-clause-some : goal.past_one-requires-clause-some
past_one-requires-clause-some c = λ e. c.if-arc-eq0.false (ap (of_z w64) e)

pub add_to_two-requires-clause-sound : goal.add_to_two-requires-clause-sound
add_to_two-requires-clause-sound c = rw (c.two-held.ensures _ _ _ c.in-Two.is) at c.requires.sound

pub returns-then-arc-eq0-clause-ok : goal.returns-then-arc-eq0-clause-ok
returns-then-arc-eq0-clause-ok c =
    rw c.in-Plain.is (nothing_grown _ c.args.arc c.requires.arc (search rules) c.if-arc-eq0.true)

pub returns-then-takes-clause-ok : goal.returns-then-takes-clause-ok
returns-then-takes-clause-ok c = rw (c.one-one.ensures _ _ _ c.in-Plain.is) (rw c.shape.ensures c.with.ensures)

pub returns-in_ok-self-in-Plain-clause-ok : goal.returns-in_ok-self-in-Plain-clause-ok
returns-in_ok-self-in-Plain-clause-ok c =
    rw (c.one-one.ensures _ _ _ c.in-Plain.is) c.in_ok-self-in-Plain.ensures.ok

pub returns-in_ok-self-in-Two-clause-ok : goal.returns-in_ok-self-in-Two-clause-ok
returns-in_ok-self-in-Two-clause-ok c = rw (c.two-held.ensures _ _ _ c.in-Two.is) c.in_ok-self-in-Two.ensures.ok
