-- What a whole text reads as: its instance, or its first fault (this project's profile).
use Rattle.std.specs.Prelude.{◌≡◌, ℕ, ◌+◌, ◌≤◌, List, [], ◌∷◌, ◌++◌, length, fold, Some, None}
use Rattle.std.specs.Option.{option_to_list}
use Rattle.dn_line.specs.declared.line.Line.{Line}
use Rattle.dn_line.specs.declared.word.Word.{Word}
use Rattle.dn_line.specs.declared.code.Code.{Code}
use Rattle.dn_line.specs.Pieces.{lines}
use Rattle.dn_line.specs.Words.{said_words}
use Rattle.dn_line.specs.Reading.{words_read}
use Rattle.dn_instance.specs.declared.refusal.Place.{Place}
use Rattle.dn_instance.specs.declared.refusal.Place.TheVariants as Places
use Rattle.dn_instance.specs.Instances.{Instance}
use Rattle.dn_instance.specs.Items.{instance_of, kind_known}
use Rattle.dn_instance.specs.TextFaults.{item_spelled, line_fault, end_fault}

-- these items, followed by the item that the next line spells under the kind that they declare, if it spells one
abbrev pub with_next : List Line → List Word → List Line
with_next before ws = before ++ option_to_list (item_spelled (words_read (kind_known before) ws))

-- the items that the lines spell, in order, where each line is read after the items of the lines before it
abbrev pub items_of : List (List ℕ) → List Line
items_of ls = fold (λ before l. with_next before (said_words l)) [] ls

-- the line with this number, counted from 1, has this fault as its first one after the lines before it
pub record FaultAt (ls : List (List ℕ)) (number : ℕ) (code : Code) : Type 0 where
  pub before : List (List ℕ)
  pub line : List ℕ
  pub after : List (List ℕ)
  pub lines_are : ls ≡ before ++ line ∷ after
  pub number_is : number ≡ length before + 1
  pub fault_is : line_fault number (items_of before) (said_words line) ≡ Some code

-- no line has a fault
abbrev pub IsClean : List (List ℕ) → Type 0
IsClean ls = (number : ℕ) (code : Code) → FaultAt ls number code → ⊥

-- this is the first fault of the line with this number, and no earlier line has a fault
pub record IsFirstFaultAt (ls : List (List ℕ)) (number : ℕ) (code : Code) : Type 0 where
  pub at : FaultAt ls number code
  pub first : (other : ℕ) (fault : Code) → FaultAt ls other fault → number ≤ other

-- no line has a fault, and this is the first fault at the end
pub record IsEndFault (ls : List (List ℕ)) (code : Code) : Type 0 where
  pub clean : IsClean ls
  pub fault_is : end_fault (items_of ls) ≡ Some code

-- the first fault of a text is the first fault of its earliest line that has one, or, if no line has a fault, the first
-- fault at the end
abbrev pub IsFirstFault : List ℕ → Place → Code → Type 0
IsFirstFault t (Places.Line number) code = IsFirstFaultAt (lines t) number code
IsFirstFault t Places.End code = IsEndFault (lines t) code

-- the text has no fault, and its items make this instance
pub record Reads (t : List ℕ) (I : Instance) : Type 0 where
  pub clean : IsClean (lines t)
  pub whole : end_fault (items_of (lines t)) ≡ None
  pub instance_is : instance_of (items_of (lines t)) ≡ Some I
