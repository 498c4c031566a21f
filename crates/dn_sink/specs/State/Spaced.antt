-- Words of a line that are appended one by one.
use Rattle.std.specs.Prelude.{ℕ, List, [], ◌∷◌, ◌++◌}
use Rattle.dn_sink.specs.Rows.{Cells}

-- the words, each after a space
abbrev pub spaced : Cells → List ℕ
spaced [] = []
spaced (w ∷ ws) = (32 ∷ w) ++ spaced ws
