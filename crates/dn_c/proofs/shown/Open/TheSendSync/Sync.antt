-- Several threads may read a seal: they may read the work, and nothing is written behind a `&`.
use base.Fml.{Lft}
use base.Shift.{Keyless}
use denote.RawPtr.{Ptr}
use denote.Struct.Owning.{shape, to}
use denote.Param.Send.{IsSync, struct_sync, sendable}
use Rattle.std.specs.Prelude.{Option, None, Some}
use Rattle.std_alloc.proofs.SendSync.{seen}
use Rattle.dn_c.specs.State.Sealed.{seal_shares}
use Rattle.dn_c.specs.contracts.work.Work as Work
use Rattle.dn_c.proofs.work.Work.TheSendSync.{the_sync as work}
use Rattle.dn_c.specs.contracts.shown.Open.{the_row, the_type}

keyless : (p : Ptr) (w : Option Work.the_row.Denot) (κ : Lft) → Keyless (seal_shares p w κ)
keyless p None κ = tt
keyless p (Some w) κ = seen Work.the_row work p w κ

pub sync : IsSync the_row
sync = record {
  shared = λ d b o κ. (
    (struct_sync (shape the_type) (search sendable, tt)).shared (to the_type d) b o κ,
    keyless d.ptr d.work κ,
  );
}
