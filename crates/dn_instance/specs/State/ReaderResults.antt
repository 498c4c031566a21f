-- What a reader returns.
use Rattle.std.specs.Prelude.{◌≡◌, ℕ, ◌+◌, ◌<◌, List, length, take, Option, Some, None, Result, Ok, Err}
use Rattle.dn_line.specs.Pieces.{lines}
use Rattle.dn_instance.specs.declared.refusal.Place.TheVariants as Places
use Rattle.dn_instance.specs.declared.refusal.Refusal.{Refusal}
use Rattle.dn_instance.specs.declared.refusal.Refusal.TheVariants.{Text, Memory}
use Rattle.dn_instance.specs.declared.reader.Reader.{Reader}
use Rattle.dn_instance.specs.EntryCount.{entries_so_far}
use Rattle.dn_instance.specs.Instances.{Instance}
use Rattle.dn_instance.specs.State.Helds.{Parsed, IsHeld}
use Rattle.dn_instance.specs.Texts.{items_of, IsClean, IsFirstFaultAt, IsFirstFault, Reads}
use Rattle.dn_instance.specs.Readers.{WantsMemory, ended}

-- why these lines are refused: for the first fault among them, or because memory ran out at a line that follows at
-- least `before` lines, where neither it nor an earlier line has a fault
abbrev pub IsRefused : ℕ → List (List ℕ) → Refusal → Type 0
IsRefused before ls (Text (Places.Line number) code) = IsFirstFaultAt ls number code
IsRefused before ls Memory = WantsMemory before ls
IsRefused before ls _ = ⊥

-- what feeding a text up to here returns: success if no complete line has a fault, the first fault among the complete
-- lines, or `Memory` at a complete line where neither it nor an earlier line has a fault
abbrev pub Fed : List ℕ → Result (Unit {0}) Refusal → Type 0
Fed t (Ok x) = IsClean (ended t)
Fed t (Err e) = IsRefused 0 (ended t) e

-- what reading a whole text returns: a parsed instance that represents what the text reads as, the first fault of the
-- text, or `Memory` at a line where neither it nor an earlier line has a fault
abbrev pub Outcome : List ℕ → Result Parsed Refusal → Type 0
Outcome t (Ok held) = (I : Instance) × Reads t I × IsHeld held I
Outcome t (Err (Text place code)) = IsFirstFault t place code
Outcome t (Err Memory) = WantsMemory 0 (lines t)
Outcome t (Err _) = ⊥

-- `Is` holds of every instance that the text reads as and the parsed instance represents
abbrev pub OfText : List ℕ → Parsed → (Instance → Type 0) → Type 0
OfText text held Is = (I : Instance) → Reads text I → IsHeld held I → Is I

-- the refusal that a reader keeps, if there is one; every later call returns it
abbrev pub refusal_of : Reader → Option Refusal
refusal_of r = r.refusal

-- this refusal if there is one, and success otherwise
abbrev pub fed_answer : Option Refusal → Result (Unit {0}) Refusal
fed_answer None = Ok tt
fed_answer (Some e) = Err e

-- the number of lines that a reader has taken
abbrev pub lines_taken : Reader → ℕ
lines_taken r = r.text.closed

-- the refused line is the first after the first `taken` of these lines: it is the line that the refusal names, or the
-- one at which memory ran out, where neither it nor an earlier line has a fault
abbrev pub IsNext : ℕ → List (List ℕ) → Refusal → Type 0
IsNext taken ls (Text (Places.Line number) code) = number ≡ taken + 1
IsNext taken ls Memory = (taken < length ls) × IsClean (take (taken + 1) ls)
IsNext taken ls _ = ⊥

-- the refused line is the first after the first `taken` of these lines, and n is the number of entries that the lines
-- before it make
abbrev pub EntriesBefore : ℕ → List (List ℕ) → Refusal → ℕ → Type 0
EntriesBefore taken ls e n = IsNext taken ls e × (n ≡ entries_so_far (items_of (take taken ls)))
