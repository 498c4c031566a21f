use Rattle.std.proofs.Common.{rules, inl, inr, ◌≡◌, ◌-◌, ◌^◌, pos, ◌-ℤ◌, ◌≤ℤ◌, FitsSigned, to_z, of_z, w64, ap, ◌∙◌, arith}
use Rattle.std.proofs.lemmas.Int.{ints, to_z-of_z}
use Rattle.dn_arc_theory.proofs.MeansLaws.{fits_some}
use Rattle.dn_flow.proofs.ShareLaws.{sub_from}
use Rattle.dn_flow.proofs.share.part.Goals as goal

pub returns-then-room-share : goal.returns-then-room-share
returns-then-room-share c =
    let line = c.args.line.now in
    let rest = c.args.share.now.rest in
    let cap_is = to_z-of_z w64 line.cap (search rules) in
    let low_is = to_z-of_z w64 line.low (search rules) in
    let rest_is = to_z-of_z w64 rest (search rules) in
    let room = to_z w64 (of_z w64 line.cap) -ℤ to_z w64 (of_z w64 line.low) in
    let most : line.cap ≤ℤ pos (2 ^ 63 - 1) = search rules in
    let most_rest : rest ≤ℤ pos (2 ^ 63 - 1) = search rules in
    let fits : FitsSigned w64 room =
    rw (cap_is, low_is) (fits_some (line.cap -ℤ line.low) (omega (arith, ints, c.requires.room))
    (omega (arith, ints, c.requires.some, most))) in
    let room_is = to_z-of_z w64 room fits in
    let few = rw (room_is, rest_is, cap_is, low_is) at c.if-room-share.true in
    let is : to_z w64 (of_z w64 (to_z w64 (of_z w64 rest) -ℤ to_z w64 (of_z w64 room))) ≡ rest -ℤ room =
    ap (λ z. to_z w64 (of_z w64 (z -ℤ to_z w64 (of_z w64 room)))) rest_is
    ∙ sub_from rest room fits (omega (arith, ints, cap_is, low_is, c.requires.room))
    (omega (arith, ints, cap_is, low_is, few)) most_rest in
    record {
      low = search rules;
      high = search rules;
      cheap = λ h. search rules;
      dear = λ h. search rules;
      last = λ h. inl (search rules);
      none = λ h r. search rules;
      over = λ r. search rules;
      same = λ h. search rules;
      moved = λ h. rw is (omega (arith, ints, cap_is, low_is));
      enough = λ r. rw is (omega (arith, ints, cap_is, low_is, few));
    }

pub returns-else-room-share : goal.returns-else-room-share
returns-else-room-share c = record {
  low = search rules;
  high = search rules;
  cheap = λ h. search rules;
  dear = λ h. search rules;
  last = λ h. inr (search rules);
  none = λ h r. search rules;
  over = λ r. search rules;
  same = λ h. search rules;
  moved = λ h. search rules;
  enough = λ r. search rules;
}
