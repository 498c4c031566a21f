-- What a `Seal` owns and shares: what a `Box<Work>` does, or nothing.
use base.Fml.{Lft, Fml, ftrue, fex}
use base.Stored.{Coded}
use denote.RawPtr.{Ptr}
use denote.Struct.Lending.{lent_at}
use mir.Syntax.{Ty}
use Rattle.std.specs.Prelude.{Option, Some, None}
use Rattle.std.specs.Coded.{coded_option}
use Rattle.std.specs.Box.Ownership.{box_owns}
use Rattle.std.specs.Global.{Global}
use Rattle.std_heap.specs.contracts.GlobalAllocator.TheImpl.{ghosts}
use Rattle.dn_c.specs.contracts.work.Work.{the_row}

-- the right to free a block of the heap, which all `Global`s share
abbrev pub may_free : Ty → Ptr → Fml
may_free ty ptr = fex Global (λ alloc. ghosts.dealloc_token alloc ty ptr)

-- what the pointer of a seal owns: the work, and the right to free its block
abbrev pub seal_owns : Ptr → Option the_row.Denot → Fml
seal_owns ptr None = ftrue
seal_owns ptr (Some work) = box_owns may_free the_row ptr work

-- what the pointer of a seal behind a `&` lends
abbrev pub seal_shares : Ptr → Option the_row.Denot → Lft → Fml
seal_shares ptr None κ = ftrue
seal_shares ptr (Some work) κ = lent_at the_row ptr work κ

-- how the ghost work of a seal is stored
abbrev pub work_coded : Coded (Option the_row.Denot)
work_coded = coded_option the_row.coded
