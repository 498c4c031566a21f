-- Lemmas on what `clap` makes of a line with a command, word by word.
use Rattle.std.proofs.Common.{◌≡◌, ◌∙◌, ℕ, false, true, List, [], ◌∷◌, Some, None, find, fold, refl}
use Rattle.std.specs.Borrow.{Bor}
use Rattle.clap.specs.Kinds.{Kinds, or_else}
use Rattle.clap.specs.Walk.{Held, Text, Waiting, Walk, after_step, answers_to, arg_by_index, finished, idle, nothing_held, option, plain_word, settled, to_positional, value, walk, walk_from, walked}
use Rattle.clap.specs.Simple.{App, Shape, built, entered, label_of, names_of}
use Rattle.clap.specs.Faults.{built_fault, check_fault, defaults_fault, level_fault, settle_fault, step_fault, turn_fault, walk_fault}
use Rattle.dn_command.specs.Commands.{Asked, is_name}
use Rattle.dn_command.specs.Options.{dnorm_app}
use Rattle.dn_command.specs.Requests.{command_asked, subcommand_asked}
use Rattle.dn_laws.proofs.words.ReadLaws.{Reads, name_cases}

-- ---- the words after a command

-- `clap` reads these words of a command from one state to another, without a fault
pub record Passes (s : Shape) (from : Walk) (words : List Text) (to : Walk) : Type 0 where
  pub ends : fold (walked s.rules []) from words ≡ to
  pub none : walk_fault s [] from words ≡ []

-- reading no words does not change the state
pub no_more : {s : Shape} {w : Walk} → Passes s w [] w
unfolding walk_fault
no_more = record { ends = refl; none = refl }

-- a word that leads from one state to the next, followed by other words
one_more : (s : Shape) (from next to : Walk) (word : Text) (rest : List Text)
    → (walked s.rules [] from word ≡ next) × (turn_fault s [] from word ≡ []) → Passes s next rest to
    → Passes s from (word ∷ rest) to
unfolding walk_fault
one_more s from next to word rest one others =
    record { ends = rw (one.0) (others.ends); none = rw (one.1, one.0) (others.none) }

-- a word without a fault, followed by other words
pub word_then : {s : Shape} {from to : Walk} {word : Text} {rest : List Text} → turn_fault s [] from word ≡ []
    → Passes s (walked s.rules [] from word) rest to → Passes s from (word ∷ rest) to
word_then {s} {from} {to} {word} {rest} none others = one_more s from _ to word rest (refl, none) others

-- the state before a word, if no `--` came before it
abbrev state : Held → Waiting → ℕ → Walk
state held waiting position =
    record { held = held; waiting = waiting; position = position; is_trailing = false; stopped = None }

-- a word that names a text, followed by other words, if no option waits for a value
pub name_then : {s : Shape} {held : Held} {position : ℕ} {to : Walk} {word : Text} {rest : List Text}
    → is_name word ≡ true → step_fault s position held value ≡ []
    → Passes s (to_positional s.rules (arg_by_index s.rules position) word (state held idle position) held) rest to
    → Passes s (state held idle position) (word ∷ rest) to
unfolding walked
name_then {s} {held} {position} {to} {word} {rest} is none others =
    let from = state held idle position in
    let one = name_cases
    (λ (w : Text). (walked s.rules [] from w ≡ to_positional s.rules (arg_by_index s.rules position) w from held)
    × (turn_fault s [] from w ≡ step_fault s position held value))
    (refl, refl) (λ b rest e. (simp e refl, simp e refl)) word is in
    one_more s from _ to word rest (one.0, one.1 ∙ none) others

-- a word that names a text, followed by other words, if an option waits for a value
pub value_then : {s : Shape} {held : Held} {id : Text} {position : ℕ} {to : Walk} {word : Text} {rest : List Text}
    → is_name word ≡ true
    → Passes s (after_step s.rules word (state held (option id) position)
    (plain_word s.rules (option id) word held).0 (plain_word s.rules (option id) word held).1) rest to
    → Passes s (state held (option id) position) (word ∷ rest) to
unfolding walked
value_then {s} {held} {id} {position} {to} {word} {rest} is others =
    let from = state held (option id) position in
    let one = name_cases
    (λ (w : Text). (walked s.rules [] from w ≡ after_step s.rules w from
    (plain_word s.rules (option id) w held).0 (plain_word s.rules (option id) w held).1)
    × (turn_fault s [] from w ≡ []))
    (refl, refl) (λ b rest e. (simp e refl, simp e refl)) word is in
    one_more s from _ to word rest one others

-- ---- lines

-- the faults that are found after a command's words
abbrev end_fault : Shape → Held → Kinds
end_fault s end = or_else (settle_fault s.rules s.args_override_self end)
    (or_else (defaults_fault (settled s.rules end).rows s.rules) (check_fault s (finished s.rules end) false))

-- a command has no fault if its words have none, and none is found after them
command_passes : (s : Shape) (words : List Text) (end : Walk) → Passes s (walk_from nothing_held) words end
    → end_fault s end.held ≡ [] → level_fault s [] nothing_held words false [] ≡ []
command_passes s words end passes none = rw (passes.none, passes.ends) none

-- a line has no fault if its command has none
line_passes : (a : App) (words rest : List Text) (command : Text) (s : Shape)
    → (walk a.top.rules (names_of a) nothing_held words).stopped ≡ Some (command, rest)
    → find (λ x. answers_to command (label_of x)) a.subs ≡ Some s
    → level_fault a.top (names_of a) nothing_held words true [] ≡ []
    → level_fault s [] nothing_held rest false [] ≡ [] → built_fault a nothing_held words ≡ []
line_passes a words rest command s stops finds above below = rw (stops, finds, below) above

-- a line asks for what its command asks for after the words
line_asks : (a : App) (words rest : List Text) (command : Text) (s : Shape) (end : Walk)
    → (walk a.top.rules (names_of a) nothing_held words).stopped ≡ Some (command, rest)
    → find (λ x. answers_to command (label_of x)) a.subs ≡ Some s
    → walk s.rules [] nothing_held rest ≡ end
    → subcommand_asked (entered a (walk a.top.rules (names_of a) nothing_held words).stopped)
    ≡ command_asked s.name (finished s.rules end.held)
line_asks a words rest command s end stops finds ends = rw (stops, finds, ends)

-- what `clap` reads of a line: it stops at the command, whose words have no fault and ask for this
pub line_reads : (forms : Bor (List (Bor Text))) (program command : Text) (rest : List Text)
    → {asked : Asked} → {s : Shape} → {end : Walk}
    → let a = built (dnorm_app forms) in
    (walk a.top.rules (names_of a) nothing_held (command ∷ rest)).stopped ≡ Some (command, rest)
    → find (λ x. answers_to command (label_of x)) a.subs ≡ Some s
    → level_fault a.top (names_of a) nothing_held (command ∷ rest) true [] ≡ []
    → Passes s (walk_from nothing_held) rest end → end_fault s end.held ≡ []
    → command_asked s.name (finished s.rules end.held) ≡ Some asked
    → Reads forms (program ∷ command ∷ rest) asked
line_reads forms program command rest {asked} {s} {end} stops finds above passes ends asks =
    let a = built (dnorm_app forms) in (
      line_passes a (command ∷ rest) rest command s stops finds above (command_passes s rest end passes ends),
      line_asks a (command ∷ rest) rest command s end stops finds passes.ends ∙ asks,
    )
