-- A text that a run asks for, and why it is refused (this project's profile).
use Rattle.std.specs.Prelude.{◌⊎◌, ℕ, List, Option}
use Rattle.dn_arc_theory.specs.declared.arc.Form.{Form}
use Rattle.dn_instance.specs.Instances.{Instance}
use Rattle.dn_instance.specs.Texts.{IsFirstFault, Reads}
use Rattle.dn_instance.specs.declared.refusal.Refusal.{Refusal}
use Rattle.dn_instance.specs.declared.refusal.Refusal.TheVariants.{Text, Memory, Read, Endless, CountTooLarge}
use Rattle.dn_canon.specs.CanonTexts.{IsTooLarge}
use Rattle.dn_host.specs.declared.files.FilesFault.{FilesFault}
use Rattle.dn_host.specs.declared.files.FilesFault.TheVariants as Files

-- a text that a run asked for: its name; the bytes behind the name before the run, if they are known; why the files did
-- not hand it out, or `None` if they did; and what holds if it is refused for a reason that is not in its bytes
pub record AskedText : Type 1 where
  pub name : List ℕ
  pub behind : Option (List ℕ)
  pub fault : Option FilesFault
  -- its source has failed
  pub HasFailed : Type 0
  -- its source has failed, after a prefix of these bytes
  pub IsUnread : List ℕ → Type 0
  -- its source gave too many of these bytes
  pub IsEndless : List ℕ → Type 0
  -- memory ran out at a line of these bytes
  pub IsOutOfMemory : List ℕ → Type 0
  -- memory ran out for the copy of these bytes
  pub LacksCopy : List ℕ → Type 0

-- this is a reason to refuse the text b when it is read: its first fault; memory ran out at a line; its source has
-- failed; or its source gave too many bytes
abbrev pub IsRefusedText : AskedText → List ℕ → Refusal → Type 0
IsRefusedText text b (Text place code) = IsFirstFault b place code
IsRefusedText text b Memory = text.IsOutOfMemory b
IsRefusedText text b Read = text.IsUnread b
IsRefusedText text b Endless = text.IsEndless b
IsRefusedText text b _ = ⊥

-- this is a reason to refuse the text b when its canonical text is asked for: a reason of reading, or that the
-- canonical text of what b reads as is too large
abbrev pub IsRefusedCanon : Form → AskedText → List ℕ → Refusal → Type 0
IsRefusedCanon form text b CountTooLarge = (I : Instance) × Reads b I × IsTooLarge form I
IsRefusedCanon form text b refusal = IsRefusedText text b refusal

-- this is a reason to refuse the text b when it is read and copied: a reason of reading, or that memory ran out for the
-- copy
abbrev pub IsRefusedCopy : AskedText → List ℕ → Refusal → Type 0
IsRefusedCopy text b Memory = text.IsOutOfMemory b ⊎ text.LacksCopy b
IsRefusedCopy text b refusal = IsRefusedText text b refusal

-- the reason to refuse a text that the files do not hand out: `Read` if it could not be opened, and `Memory` if memory
-- ran out
abbrev pub unopened : FilesFault → Refusal
unopened Files.Device = Read
unopened Files.Memory = Memory
