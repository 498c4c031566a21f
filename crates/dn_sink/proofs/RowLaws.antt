-- Lemmas on the text of rows.
use Rattle.std.proofs.Common.{◌≡◌, List, ◌++◌, map, ap, ◌∙◌}
use Rattle.std.proofs.lemmas.List.{map-append}
use Rattle.std.proofs.lemmas.List.Folds.{concat-append}
use Rattle.std.specs.List.{concat}
use Rattle.dn_sink.specs.Rows.{Cells, line_text, text_of}

-- the text of two lists of rows is the text of the first and then that of the second
pub text-append : (rs ss : List Cells) → text_of (rs ++ ss) ≡ text_of rs ++ text_of ss
text-append rs ss = ap concat (map-append line_text rs ss) ∙ concat-append (map line_text rs) (map line_text ss)
