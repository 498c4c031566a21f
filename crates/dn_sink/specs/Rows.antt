-- Texts as lists of lines, and lines as lists of words: single spaces between words, and an LF after every line (this
-- project's profile).
use Rattle.std.specs.Prelude.{ℕ, List, [], ◌∷◌, ◌++◌, map}
use Rattle.std.specs.List.{join_with_byte, concat}

-- the words of one line
abbrev pub Cells : Type 0
Cells = List (List ℕ)

-- the words of a line with single spaces between them, and an LF
abbrev pub line_text : Cells → List ℕ
line_text words = join_with_byte 32 words ++ 10 ∷ []

-- the text of a list of lines
abbrev pub text_of : List Cells → List ℕ
text_of rows = concat (map line_text rows)
