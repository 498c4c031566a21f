use Rattle.std.proofs.Common.{◌≡◌, ℕ, ◌+◌, ◌-◌, ◌≤◌, List, length, take, drop, min, Bool, ap, sym, ◌∙◌, subst, arith, Ok}
use Rattle.std.proofs.lemmas.List.{length-take-le, length-drop}
use borrow.Rule.Slice.PartMut.{put_mid, same_len_mid}
use Rattle.dn_sink.specs.State.MemorySinks.{Filled, room_for}
use Rattle.dn_sink.proofs.room.RoomSink.put.Goals as goal

module _ (room piece mid : List ℕ) (used n : ℕ) (inv : used ≤ length room)
    (fits : n ≡ min (length room - used) (length piece)) (copied : mid ≡ take n piece) where
  -- as many bytes as fit are copied
  size_is : length mid ≡ n
  size_is = ap length copied ∙ length-take-le n piece (omega (arith, fits))

  -- the slice keeps its length
  length_is : length (put_mid used (used + n - used) room mid) ≡ length room
  length_is =
      same_len_mid used (used + n - used) room mid
      (size_is ∙ omega (
        arith,
        fits,
        inv,
        length-drop used room,
        length-take-le (used + n - used) (drop used room) (omega (arith, fits, inv, length-drop used room)),
      ))

  -- what is used now lies in the slice
  used_is : used + n ≤ length (put_mid used (used + n - used) room mid)
  used_is = omega (arith, fits, inv, length_is)

  -- the count is that of the room
  room_is : (was : Bool) (old : Filled) → record { size = length room; bytes = take used room; failed = was } ≡ old
      → n ≡ room_for old piece
  room_is was old e =
      subst (λ f. n ≡ room_for f piece) e
      (fits ∙ ap (λ m. min (length room - m) (length piece)) (sym (length-take-le used room inv)))

pub invariant_of-self : goal.invariant_of-self
invariant_of-self c =
    used_is c.self.inside.room.now c.args.piece.now c.copy_from_slice.new.self c.self.inside.used c.min-n.result
    c.self.invariant c.min-n.ensures c.copy_from_slice.ensures.after

pub invariant_of-self-else-not-is_empty : goal.invariant_of-self-else-not-is_empty
invariant_of-self-else-not-is_empty c =
    used_is c.self.inside.room.now c.args.piece.now c.copy_from_slice.new.self c.self.inside.used c.min-n.result
    c.self.invariant c.min-n.ensures c.copy_from_slice.ensures.after

pub invariant_of-self-else-n-eq0 : goal.invariant_of-self-else-n-eq0
invariant_of-self-else-n-eq0 c =
    used_is c.self.inside.room.now c.args.piece.now c.copy_from_slice.new.self c.self.inside.used c.min-n.result
    c.self.invariant c.min-n.ensures c.copy_from_slice.ensures.after

pub returns-then-not-is_empty-clause-room : goal.returns-then-not-is_empty-clause-room
returns-then-not-is_empty-clause-room c =
    ap Ok
    (room_is c.self.inside.room.now c.args.piece.now c.copy_from_slice.new.self c.self.inside.used c.min-n.result
    c.self.invariant c.min-n.ensures c.copy_from_slice.ensures.after c.self.inside.failed c.args.self.now
    c.self.view_is)

pub returns-else-n-eq0-clause-room : goal.returns-else-n-eq0-clause-room
returns-else-n-eq0-clause-room c =
    ap Ok
    (room_is c.self.inside.room.now c.args.piece.now c.copy_from_slice.new.self c.self.inside.used c.min-n.result
    c.self.invariant c.min-n.ensures c.copy_from_slice.ensures.after c.self.inside.failed c.args.self.now
    c.self.view_is)
