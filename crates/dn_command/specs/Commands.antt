-- Which lines of words are plain forms of commands, and what they ask for (this project's profile).
use Rattle.std.specs.Prelude.{ℕ, nat_eq, List, [], ◌∷◌, Bool, false, not, ◌&&◌, ◌||◌, Option, Some, None, option_map, codes, drop, if◌then◌else◌}
use Rattle.std.specs.Str.{bytes_eq}
use Rattle.dn_arc_theory.specs.declared.arc.Form.{Form}
use Rattle.dn_arc_theory.specs.declared.arc.Form.TheVariants.{One}
use Rattle.dn_command.specs.declared.command.Command.{Command}
use Rattle.dn_command.specs.declared.command.Command.TheVariants as commands

-- what a command line asks for; texts are given by their names
pub data Asked : Type 0 where
  -- what the text contains
  Show : List ℕ → Asked
  -- whether the text is accepted and, if a companion is named, whether it fits
  Check : List ℕ → Option (List ℕ) → Asked
  -- the canonical text of the text, in this form
  Canon : List ℕ → Form → Asked
  -- the first difference between the texts, the left and the right
  Compare : List ℕ → List ℕ → Asked

-- what a command asks for
abbrev pub asks : Command → Asked
asks (commands.Show name) = Show name.now
asks (commands.Check name companion) = Check name.now (option_map (λ s. s.now) companion)
asks (commands.Canon name form) = Canon name.now form
asks (commands.Compare left right) = Compare left.now right.now

-- the name of standard input
abbrev pub is_standard_input : List ℕ → Bool
is_standard_input word = bytes_eq word (codes "-")

-- a word that names a text: `-`, or any non-empty word that does not begin with `-`
abbrev pub is_name : List ℕ → Bool
is_name [] = false
is_name (b ∷ rest) = is_standard_input (b ∷ rest) || not (nat_eq b 45)

-- what the plain form of a command with one text asks for: `show FILE`, `check FILE` or `canon FILE`
abbrev pub asked_of_one : List ℕ → List ℕ → Option Asked
asked_of_one command name =
    if not (is_name name) then None
    else (if bytes_eq command (codes "show") then Some (Show name)
    else (if bytes_eq command (codes "check") then Some (Check name None)
    else (if bytes_eq command (codes "canon") then Some (Canon name One) else None)))

-- what the plain form of a command with two texts asks for: `compare LEFT RIGHT`
abbrev pub asked_of_two : List ℕ → List ℕ → List ℕ → Option Asked
asked_of_two command left right =
    if bytes_eq command (codes "compare") && (is_name left && is_name right) then Some (Compare left right) else None

-- what the words after the program's name ask for, if they are a plain form; no words ask for the canonical text of
-- standard input
abbrev pub plain_words : List (List ℕ) → Option Asked
plain_words [] = Some (Canon (codes "-") One)
plain_words (command ∷ []) = None
plain_words (command ∷ name ∷ []) = asked_of_one command name
plain_words (command ∷ left ∷ right ∷ []) = asked_of_two command left right
plain_words (command ∷ first ∷ second ∷ third ∷ rest) = None

-- what a line of words, the program's name first, asks for, if it is a plain form; an empty line counts as the name
-- without words
abbrev pub plain_asked : List (List ℕ) → Option Asked
plain_asked words = plain_words (drop 1 words)

-- standard input is named for both texts
abbrev pub names_twice : Asked → Bool
names_twice (Check name (Some companion)) = is_standard_input name && is_standard_input companion
names_twice (Compare left right) = is_standard_input left && is_standard_input right
names_twice _ = false
