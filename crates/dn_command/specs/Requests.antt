-- What lines of words other than plain forms ask for, in terms of `clap`'s definitions (this project's profile).
use Rattle.std.specs.Prelude.{◌≡◌, ◌≢◌, ◌⊎◌, ⊤, ℕ, List, [], map, codes, Option, Some, None, option_map, option_and_then, string_bytes, if◌then◌else◌}
use Rattle.std.specs.Borrow.{Bor}
use Rattle.std.specs.Str.{bytes_eq}
use Rattle.clap.specs.Words.{IsAmong, Kinds, Row, Text, fault_of, first_of, subcommand_of}
use Rattle.clap.specs.declared.error.kind.ErrorKind.{ErrorKind}
use Rattle.clap.specs.declared.error.kind.ErrorKind.TheVariants.{DisplayHelp, DisplayVersion}
use Rattle.dn_arc_theory.specs.declared.arc.Form.{Form}
use Rattle.dn_arc_theory.specs.declared.arc.Form.TheVariants.{One, Two}
use Rattle.dn_command.specs.Commands.{Asked, Canon, Check, Compare, Show, asks}
use Rattle.dn_command.specs.Options.{dnorm_app, form_option_words}
use Rattle.dn_command.specs.declared.request.Request.{Request}
use Rattle.dn_command.specs.declared.request.Request.TheVariants as requests

-- the form that a word after `--form` names
abbrev pub form_of : Text → Option Form
form_of word = if bytes_eq word (codes "1") then Some One else (if bytes_eq word (codes "2") then Some Two else None)

-- what `show` asks for, given the first word that `clap` has under each name
abbrev pub show_asked : List Row → Option Asked
show_asked rows = option_map Show (first_of (codes "FILE") rows)

-- what `check` asks for, given the first word that `clap` has under each name
abbrev pub check_asked : List Row → Option Asked
check_asked rows = option_map (λ name. Check name (first_of (codes "with") rows)) (first_of (codes "FILE") rows)

-- what `canon` asks for, given the first word that `clap` has under each name; the form is `1` or `2`
abbrev pub canon_asked : List Row → Option Asked
canon_asked rows = option_and_then (λ name. option_map (Canon name)
    (option_and_then form_of (first_of (codes "form") rows))) (first_of (codes "FILE") rows)

-- what `compare` asks for, given the first word that `clap` has under each name
abbrev pub compare_asked : List Row → Option Asked
compare_asked rows = option_and_then (λ left. option_map (Compare left) (first_of (codes "RIGHT") rows))
    (first_of (codes "LEFT") rows)

-- what the command of this name asks for, given the first word that `clap` has under each name
abbrev pub command_asked : Text → List Row → Option Asked
command_asked name rows = if bytes_eq name (codes "show") then show_asked rows
    else (if bytes_eq name (codes "check") then check_asked rows
    else (if bytes_eq name (codes "canon") then canon_asked rows
    else (if bytes_eq name (codes "compare") then compare_asked rows else None)))

-- what the subcommand that `clap` read asks for
abbrev pub subcommand_asked : Option (Text × List Row) → Option Asked
subcommand_asked = option_and_then (λ p. command_asked p.0 p.1)

-- the text printed for the version: the program's name and its version
abbrev pub version_line : List ℕ
version_line = codes "dnorm 3.1.0\n"

-- one of these faults is a mistake in the words, and neither a call for help nor one for the version
abbrev pub HasMistake : Kinds → Type 0
HasMistake faults = (k : ErrorKind) × IsAmong k faults × (k ≢ DisplayHelp) × (k ≢ DisplayVersion)

-- which requests are right, given the faults that the words may have and what the subcommand that was read asks for: a
-- command only if there is no fault and it is the one asked for; help or the version only if the words call for it; a
-- bad line only if there is a mistake, or there is no fault but nothing is asked for; out of memory always
abbrev pub Answers : Kinds → Option Asked → Request → Type 0
Answers faults asked (requests.Command command) = (faults ≡ []) × (asked ≡ Some (asks command))
Answers faults asked (requests.Print text) =
    IsAmong DisplayHelp faults ⊎ (IsAmong DisplayVersion faults × (string_bytes text ≡ version_line))
Answers faults asked requests.Bad = HasMistake faults ⊎ ((faults ≡ []) × (asked ≡ None))
Answers faults asked requests.Memory = ⊤

-- the request for a line of words is right by `clap`'s definitions, with the program's options
pub record IsReadByClap (words : List Text) (request : Request) : Type 0 where
  -- the two words that may follow `--form`, at any address in memory
  pub forms : Bor (List (Bor Text))
  pub are_forms : map (λ s. s.now) forms.now ≡ form_option_words
  pub answer : Answers (fault_of (dnorm_app forms) words)
      (subcommand_asked (subcommand_of (dnorm_app forms) words)) request
