-- What a call that only reads requires can be had: whoever owns a handle lends it for a lifetime, to as many calls as
-- it likes, and has it back once the lifetime has ended.
use Prim.Native.Nat.{ℕ}
use seplogic.Ra.Ura.{Ura}
use base.Fraction.{full_share}
use base.Logic.{ent, id⊢}
use types.Logic.{Logic, sem}
use denote.Memory.{part_at, part_of}
use Rattle.dn_c.specs.declared.handle.Handle.{Handle}
use Rattle.dn_c.specs.declared.shown.Shown.{Shown}
use Rattle.dn_c.specs.contracts.handle.Handle as H
use Rattle.dn_c.specs.contracts.shown.Shown as S

-- the same handle, as a call that only reads sees it
abbrev pub shown_of : Handle → Shown
shown_of h = record {
  seal = record { ptr = h.seal.ptr; work = h.seal.work };
  full = h.full;
  agrees = h.agrees;
}

module _ {M : Type 1} {𝓤 : Ura M} (𝓛 : Logic 𝓤) where
  pub owned_shown : (h : Handle) (b o : ℕ) → ent 𝓤 (sem 𝓛 (part_at H.the_row full_share h b o))
      (sem 𝓛 (part_at S.the_row full_share (shown_of h) b o))
  unfolding part_of
  owned_shown h b o = id⊢ 𝓤 _

  pub shown_owned : (h : Handle) (b o : ℕ) → ent 𝓤 (sem 𝓛 (part_at S.the_row full_share (shown_of h) b o))
      (sem 𝓛 (part_at H.the_row full_share h b o))
  unfolding part_of
  shown_owned h b o = id⊢ 𝓤 _
