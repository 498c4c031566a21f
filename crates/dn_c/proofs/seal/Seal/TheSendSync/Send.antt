-- A seal may go to another thread: the work may, and the heap frees its blocks in any thread.
use mir.Raw.{raw}
use denote.Memory.{lone}
use denote.RawPtr.{Ptr}
use base.Shift.{Keyless}
use denote.Struct.Struct.{exits_of}
use denote.Struct.Owning.{shape, fields, to}
use denote.Param.Send.{IsSend, AllSend, owning_send, struct_send, sendable}
use Rattle.std.specs.Prelude.{Option, None, Some}
use Rattle.std.proofs.Crossing as heap
use Rattle.std_alloc.proofs.SendSync.{quiet, lies}
use Rattle.dn_c.specs.State.Sealed.{seal_owns}
use Rattle.dn_c.specs.contracts.work.Work as Work
use Rattle.dn_c.proofs.work.Work.TheSendSync.{the_send as work}
use Rattle.dn_c.specs.contracts.seal.Seal.{the_row, the_type}

keyless : (p : Ptr) (w : Option Work.the_row.Denot) → Keyless (seal_owns p w)
keyless p None = tt
keyless p (Some w) = (lies Work.the_row work p w, λ alloc. heap.frees.frees alloc (raw (lone Work.the_row.mir)) p)

pub send : IsSend the_row
send =
    let all : AllSend (fields the_type) = (search sendable, tt) in
    owning_send the_type all (λ d. keyless d.ptr d.work)
    (λ k. quiet (to the_type) (exits_of k (fields the_type)) ((struct_send (shape the_type) all).leaving k))
