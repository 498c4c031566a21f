-- The faults that a line has after the items of the lines before it, and the faults at the end of a text. What is a
-- fault is of the formats, as docs/FORMAT.md says for each; the numbers of the faults and the order of checking are
-- this project's profile.
use Rattle.std.specs.Prelude.{ℕ, ◌-◌, ◌^◌, ℤ, pos, ◌+ℤ◌, List, [], ◌∷◌, ◌++◌, Bool, true, false, ◌&&◌, ◌||◌, not, cond, nat_le, is_none, is_some, Option, Some, None, Result, Ok, Err, int_lt}
use Rattle.std.specs.List.{list_any, list_all}
use Rattle.std.specs.Option.{option_map_or}
use Rattle.std.specs.Ordering.{int_eq}
use Rattle.dn_line.specs.declared.kind.Kind.{Kind}
use Rattle.dn_line.specs.declared.kind.Kind.TheVariants as Kinds
use Rattle.dn_line.specs.declared.kind.Letter.{Letter}
use Rattle.dn_line.specs.declared.kind.Letter.TheVariants as Letters
use Rattle.dn_line.specs.declared.line.Line.{Line}
use Rattle.dn_line.specs.declared.line.Line.TheVariants as Item
use Rattle.dn_line.specs.declared.word.Keyword.{Keyword}
use Rattle.dn_line.specs.declared.word.Keyword.TheVariants as Key
use Rattle.dn_line.specs.declared.word.Word.{Word}
use Rattle.dn_line.specs.declared.code.Code.{Code}
use Rattle.dn_line.specs.declared.code.Code.TheVariants.{LateNode, TooManyLines, NodeOutOfRange, RepeatedNode, SameTerminal, LowAboveCap, SumTooLarge, NoProblem, MissingTerminal, TooFewLines, TooLong}
use Rattle.dn_line.specs.Words.{first, is_skip}
use Rattle.dn_line.specs.LineTable.{is_companion}
use Rattle.dn_line.specs.Faults.{Test, first_fault, head_tests, field_tests, fields}
use Rattle.dn_line.specs.Reading.{words_read}
use Rattle.dn_arc_theory.specs.Kinds.{costs}
use Rattle.dn_arc_theory.specs.Capacities.{total_cap}
use Rattle.dn_arc_theory.specs.Pairs.{bundle}
use Rattle.dn_instance.specs.Items.{Problem, problem_of, kind_known, counted, arcs_of, cap_arc_in, cost_arc_in, terminal_of}

-- the item that a line reads as, unless the line is skipped or has a fault by itself
abbrev pub item_spelled : Result Line Code → Option Line
item_spelled (Ok Item.Skip) = None
item_spelled (Ok i) = Some i
item_spelled (Err code) = None

-- the number of the line is at least 2^63 - 1
abbrev pub is_too_long : ℕ → Bool
is_too_long number = nat_le (2 ^ 63 - 1) number

-- the line is an arc line
abbrev pub is_arc : Line → Bool
is_arc (Item.MinArc src dst low cap cost) = true
is_arc (Item.MaxArc src dst cap) = true
is_arc (Item.SpArc src dst length) = true
is_arc _ = false

-- the letter is the `n` of a node line
abbrev pub is_node_letter : Option Keyword → Bool
is_node_letter (Some Key.N) = true
is_node_letter _ = false

-- the letter is that of a counted line: `a`, `s`, `q` or `v`
abbrev pub is_counted_letter : Option Keyword → Bool
is_counted_letter (Some Key.A) = true
is_counted_letter (Some Key.S) = true
is_counted_letter (Some Key.Q) = true
is_counted_letter (Some Key.V) = true
is_counted_letter _ = false

-- there are at least as many counted lines as declared
abbrev pub is_full : Option Problem → ℕ → Bool
is_full o count = option_map_or (λ (p : Problem). not (int_lt (pos count) p.count)) o false

-- the nodes that a line names
abbrev pub ids_in : Line → List ℤ
ids_in (Item.Supply id flow) = id ∷ []
ids_in (Item.Terminal id letter) = id ∷ []
ids_in (Item.MinArc src dst low cap cost) = src ∷ dst ∷ []
ids_in (Item.MaxArc src dst cap) = src ∷ dst ∷ []
ids_in (Item.SpArc src dst length) = src ∷ dst ∷ []
ids_in (Item.Source id) = id ∷ []
ids_in (Item.Query first second) = first ∷ second ∷ []
ids_in (Item.Point id x y) = id ∷ []
ids_in _ = []

-- an ID is in range if it is from 1 to NODES, or in a companion if it is at least 1; without a problem line, no ID is
-- in range
abbrev pub is_in_range : Option Problem → ℤ → Bool
is_in_range o id =
    option_map_or (λ (p : Problem). int_lt (pos 0) id && (is_companion p.kind || not (int_lt p.nodes id))) o false

-- an ID, SRC or DST of the line is not in range
abbrev pub is_stray : List Line → Line → Bool
is_stray before i = not (list_all (is_in_range (problem_of before)) (ids_in i))

-- the line is a `min` node line of this ID
abbrev pub has_supply : ℤ → Line → Bool
has_supply id (Item.Supply i flow) = int_eq i id
has_supply id _ = false

-- the line is a `v` line of this ID
abbrev pub has_point : ℤ → Line → Bool
has_point id (Item.Point i x y) = int_eq i id
has_point id _ = false

-- an ID has a second `min` node line or a second `v` line, or a letter has a second `max` node line
abbrev pub is_repeated : List Line → Line → Bool
is_repeated before (Item.Supply id flow) = list_any (has_supply id) before
is_repeated before (Item.Terminal id letter) = is_some (terminal_of letter before)
is_repeated before (Item.Point id x y) = list_any (has_point id) before
is_repeated before _ = false

-- the other letter is `t` for `s`, and `s` for `t`
abbrev pub other_letter : Letter → Letter
other_letter Letters.S = Letters.T
other_letter Letters.T = Letters.S

-- a `max` node line names the node of the other letter, so the source and the sink would be one node
abbrev pub is_same_terminal : List Line → Line → Bool
is_same_terminal before (Item.Terminal id letter) =
    option_map_or (λ other. int_eq other id) (terminal_of (other_letter letter) before) false
is_same_terminal before _ = false

-- LOW of a `min` arc is above its CAP
abbrev pub is_low_above_cap : Line → Bool
is_low_above_cap (Item.MinArc src dst low cap cost) = int_lt cap low
is_low_above_cap _ = false

-- the CAPs of this arc and of the earlier arcs of its ordered pair sum to more than 2^63 - 1
abbrev pub is_sum_too_large : List Line → Line → Bool
is_sum_too_large before (Item.MinArc src dst low cap cost) =
    int_lt (pos (2 ^ 63 - 1)) (costs.capacity (bundle (src, dst) (arcs_of cost_arc_in before)) +ℤ cap)
is_sum_too_large before (Item.MaxArc src dst cap) =
    int_lt (pos (2 ^ 63 - 1)) (total_cap (bundle (src, dst) (arcs_of cap_arc_in before)) +ℤ cap)
is_sum_too_large before _ = false

-- the faults that an item has after the items before it, in the order of checking
abbrev pub item_tests : List Line → Option Line → List Test
item_tests before i =
    (NodeOutOfRange, option_map_or (is_stray before) i false)
    ∷ (RepeatedNode, option_map_or (is_repeated before) i false)
    ∷ (SameTerminal, option_map_or (is_same_terminal before) i false)
    ∷ (LowAboveCap, option_map_or is_low_above_cap i false)
    ∷ (SumTooLarge, option_map_or (is_sum_too_large before) i false)
    ∷ []

-- the faults that a line has because of its letter and of the items before it, in the order of checking: an `n` line
-- follows an `a` line, or a counted line follows at least as many counted lines as declared
abbrev pub order_tests : List Line → List Word → List Test
order_tests before ws =
    (LateNode, is_node_letter (first ws) && list_any is_arc before)
    ∷ (TooManyLines, is_counted_letter (first ws) && is_full (problem_of before) (counted before))
    ∷ []

-- the faults of a line after these items, except `TooLong`, in the order of checking
abbrev pub line_tests : List Line → List Word → List Test
line_tests before ws =
    let known = kind_known before in
    head_tests known ws
    ++ (order_tests before ws
    ++ (field_tests (fields known ws) ++ item_tests before (item_spelled (words_read known ws))))

-- the first fault of the line with this number after these items; the only fault that a skipped line can have is
-- `TooLong`
abbrev pub line_fault : ℕ → List Line → List Word → Option Code
line_fault number before ws = first_fault ((TooLong, is_too_long number) ∷ cond (is_skip ws) [] (line_tests before ws))

-- a `max` text has no source or no sink
abbrev pub lacks_terminal : Option Kind → List Line → Bool
lacks_terminal (Some Kinds.Max) items = is_none (terminal_of Letters.S items) || is_none (terminal_of Letters.T items)
lacks_terminal _ items = false

-- the faults at the end of a text with these items, in the order of checking
abbrev pub end_tests : List Line → List Test
end_tests items =
    (NoProblem, is_none (problem_of items))
    ∷ (MissingTerminal, lacks_terminal (kind_known items) items)
    ∷ (TooFewLines, not (is_full (problem_of items) (counted items)))
    ∷ []

-- the first fault at the end of a text with these items, if there is one
abbrev pub end_fault : List Line → Option Code
end_fault items = first_fault (end_tests items)
