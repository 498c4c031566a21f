-- What a call that only reads is lent.
use base.Fml.{Lft, Share, Fml, fsep, flft}
use denote.RawPtr.{Ptr}
use denote.Struct.Lending.{lent_at}
use Rattle.std.specs.Prelude.{Option}
use Rattle.dn_c.specs.contracts.shown.Shown.{the_row}
use Rattle.dn_c.specs.declared.shown.Shown.{Shown}
use Rattle.dn_c.specs.declared.work.Work.{Work}

-- what a handle holds, if anything
abbrev pub shown_work : Shown → Option Work
shown_work h = h.seal.work

-- a lifetime that has not ended
abbrev pub alive_at : Lft × Share → Fml
alive_at l = flft l.0 l.1

-- a handle is lent at this pointer for a lifetime that has not ended. Any number of calls may have this of one handle
-- at a time, each with a share of the lifetime's token
abbrev pub read_at : Lft × Share → Ptr → the_row.Denot → Fml
read_at l ptr h = fsep (lent_at the_row ptr h l.0) (alive_at l)
