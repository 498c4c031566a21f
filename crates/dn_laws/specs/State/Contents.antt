-- What of a text decides what it reads as.
use Rattle.std.specs.Prelude.{◌≡◌, ℕ, List, false, filter, map, not, Some}
use Rattle.dn_line.specs.declared.word.Keyword.TheVariants.{A}
use Rattle.dn_line.specs.declared.word.Word.{Word}
use Rattle.dn_line.specs.Pieces.{lines}
use Rattle.dn_line.specs.Words.{first, is_skip, said_words}

-- the meanings of the words of those lines that are not skipped, line by line
abbrev pub kept_lines : List (List ℕ) → List (List Word)
kept_lines ls = filter (λ ws. not (is_skip ws)) (map said_words ls)

-- the same of the lines of a text
abbrev pub kept_words : List ℕ → List (List Word)
kept_words t = kept_lines (lines t)

-- a line with these words is an arc line
abbrev pub IsArcLine : List Word → Type 0
IsArcLine ws = (is_skip ws ≡ false) × (first ws ≡ Some A)
