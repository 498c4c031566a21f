-- What `compare` prints for a verdict (this project's profile).
use Rattle.std.specs.Prelude.{ℕ, ℤ, pos, List, [], ◌∷◌, ◌++◌, codes, Option, Some, None}
use Rattle.std.specs.Fmt.{signed_decimal}
use Rattle.dn_line.specs.Names.{kind_name}
use Rattle.dn_arc_theory.specs.declared.difference.How.{How}
use Rattle.dn_arc_theory.specs.declared.difference.How.TheVariants.{Lengths, Totals, Costs}
use Rattle.dn_instance.specs.declared.verdict.Verdict.{Verdict}
use Rattle.dn_instance.specs.declared.verdict.Verdict.TheVariants.{Same, Kind, Nodes, Supply, Source, Sink, Pair, Length, Item, Point}
use Rattle.dn_sink.specs.Rows.{Cells}

-- a number, or `none`
abbrev pub number_or_none : Option ℤ → List ℕ
number_or_none None = codes "none"
number_or_none (Some n) = signed_decimal n

-- how the arcs of a pair differ, with the values of the left and the right side
abbrev pub how_words : How → Cells
how_words (Lengths left right) = codes "length" ∷ number_or_none left ∷ number_or_none right ∷ []
how_words (Totals left right) = codes "capacity" ∷ signed_decimal left ∷ signed_decimal right ∷ []
how_words (Costs gap) =
    codes "amount" ∷ signed_decimal gap.amount ∷ codes "cost" ∷ number_or_none gap.left ∷ number_or_none gap.right ∷ []

-- the line of a difference: what differs, and the numbers of both sides
abbrev pub sides_row : Cells → ℤ → ℤ → Cells
sides_row what left right = codes "differ" ∷ (what ++ signed_decimal left ∷ signed_decimal right ∷ [])

-- the line of a verdict
abbrev pub verdict_row : Verdict → Cells
verdict_row Same = codes "same" ∷ []
verdict_row (Kind left right) = codes "differ" ∷ codes "kind" ∷ kind_name left ∷ kind_name right ∷ []
verdict_row (Nodes left right) = sides_row (codes "nodes" ∷ []) left right
verdict_row (Supply id left right) = sides_row (codes "supply" ∷ signed_decimal id ∷ []) left right
verdict_row (Source left right) = sides_row (codes "source" ∷ []) left right
verdict_row (Sink left right) = sides_row (codes "sink" ∷ []) left right
verdict_row (Pair src dst how) = codes "differ" ∷ codes "pair" ∷ signed_decimal src ∷ signed_decimal dst ∷ how_words how
verdict_row (Length left right) = sides_row (codes "length" ∷ []) (pos left) (pos right)
verdict_row (Item index) = codes "differ" ∷ codes "item" ∷ signed_decimal (pos index) ∷ []
verdict_row (Point id) = codes "differ" ∷ codes "point" ∷ signed_decimal id ∷ []
