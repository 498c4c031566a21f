-- A `&` to the seal is made where one to what it holds is.
use base.Fraction.{full_share}
use base.Fml.{Lft, ftrue}
use contract.BorrowLft.{⊑_static}
use denote.Memory.{lone}
use denote.RawPtr.{Ptr, lies_at}
use denote.Sharing.{ShrLaws}
use denote.SharingLaws.{said_shr_laws}
use denote.Shares.{Shares-less}
use denote.Param.Shared.{copy_shared}
use denote.Struct.Field.{RawPtr-field}
use denote.Struct.Laws.{RawPtr-copy}
use denote.Struct.Lending.{lent_at, lent_at_shr_laws, Lends, Lends-nothing, Lends-lies, Lends-first, of_Lends}
use mir.Raw.{raw as bare}
use seplogic.Ra.Ura.{Ura}
use types.Logic.{Logic}
use Rattle.std.specs.Prelude.{Option, Some, None}
use Rattle.dn_c.specs.State.Sealed.{may_free, seal_owns, seal_shares}
use Rattle.dn_c.specs.contracts.work.Work.{the_row as T}
use Rattle.dn_c.proofs.work.Work.TheLaws.{the_row_laws as L}
use Rattle.dn_c.specs.contracts.shown.Open as C
use Rattle.dn_c.proofs.shown.Open.TheLaw.Statement.{statement}

laws : (p : Ptr) (w : Option T.Denot) → ShrLaws (λ κ. seal_shares p w κ)
laws p None = said_shr_laws ftrue tt
laws p (Some w) = lent_at_shr_laws T L.shr_laws p w

lends : {M : Type 1} {𝓤 : Ura M} (𝓛 : Logic 𝓤) (l : Lft) (p : Ptr) (w : Option T.Denot) → Lends 𝓛 (seal_owns p w)
    (λ κ. seal_shares p w κ) l
lends 𝓛 l p None = Lends-nothing 𝓛 ftrue l
lends 𝓛 l p (Some w) = Lends-first 𝓛 (lies_at T full_share p w) (may_free (bare (lone T.mir)) p) (lent_at T p w) l
    (Lends-lies 𝓛 T l p w (Shares-less 𝓛 T T.lives l (⊑_static l) (L.shares 𝓛) w))

pub shares : statement
shares = of_Lends C.struct C.the_codes C.the_heap C.the_lent (λ d p. laws d.ptr d.work)
    (copy_shared RawPtr-field RawPtr-copy, tt) (λ M 𝓤 𝓛 d p. lends 𝓛 C.the_row.lives d.ptr d.work)
