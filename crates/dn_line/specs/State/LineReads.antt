-- The two steps of reading a line: its head, and its fields.
use Rattle.std.specs.Prelude.{ℕ, List, cond, Option, Some, None, Result, Ok, Err}
use Rattle.dn_line.specs.Words.{said_words, is_skip, first}
use Rattle.std.specs.Option.{option_map_or}
use Rattle.dn_line.specs.LineTable.{after_name, kind_named}
use Rattle.dn_line.specs.Faults.{first_fault, head_tests, field_tests, fields}
use Rattle.dn_line.specs.declared.kind.Kind.{Kind}
use Rattle.dn_line.specs.declared.line.Head.{Head}
use Rattle.dn_line.specs.declared.line.Head.TheVariants as Heads
use Rattle.dn_line.specs.declared.line.Line.{Line}
use Rattle.dn_line.specs.declared.line.Line.TheVariants as Items
use Rattle.dn_line.specs.declared.word.Keyword.{Keyword}
use Rattle.dn_line.specs.declared.word.Keyword.TheVariants as Key
use Rattle.dn_line.specs.declared.word.Word.{Word}
use Rattle.dn_line.specs.declared.code.Code.{Code}
use Rattle.dn_line.specs.Reading.{problem, spelled, unless, words_read}

-- the head of a problem line that names this kind
abbrev pub problem_head : Option Kind → Head
problem_head None = Heads.Skip
problem_head (Some k) = Heads.Problem k

-- what a line is, given its first word and the kind that it names
abbrev pub head_of : Option Keyword → Option Kind → Head
head_of (Some Key.P) k = problem_head k
head_of (Some Key.N) k = Heads.Node
head_of (Some Key.A) k = Heads.Arc
head_of (Some Key.S) k = Heads.Source
head_of (Some Key.Q) k = Heads.Query
head_of (Some Key.V) k = Heads.Point
head_of _ k = Heads.Skip

-- the problem that a line declares, given the kind that it names and the words after `p`
abbrev pub problem_named : Option Kind → List Word → Line
problem_named o ws = option_map_or (λ k. problem k (after_name k ws)) o Items.Skip

-- what the checks of a line's head return
abbrev pub head_read : Option Kind → List Word → Result Head Code
head_read known ws =
    cond (is_skip ws) (Ok Heads.Skip) (unless (first_fault (head_tests known ws)) (head_of (first ws) (kind_named ws)))

-- what the checks of a line's fields return
abbrev pub fields_read : Option Kind → List Word → Result Line Code
fields_read known ws =
    cond (is_skip ws) (Ok Items.Skip) (unless (first_fault (field_tests (fields known ws))) (spelled known ws))

-- what a line without its LF reads as
abbrev pub line_read : Option Kind → List ℕ → Result Line Code
line_read known l = words_read known (said_words l)

-- the result of the fields if the head has no fault, and the head's fault otherwise
abbrev pub then_fields : Result Head Code → Result Line Code → Result Line Code
then_fields (Ok h) r = r
then_fields (Err c) r = Err c
