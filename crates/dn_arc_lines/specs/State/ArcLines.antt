-- The arc lines of a text, in their order.
use Rattle.std.specs.Prelude.{ℕ, ◌+◌, pos, List, [], ◌∷◌, ◌++◌, map, filter_map, cond, Option, Some, None, Result, Ok, Err}
use Rattle.std.specs.Option.{option_or, option_to_list}
use Rattle.dn_line.specs.declared.kind.Kind.{Kind}
use Rattle.dn_line.specs.declared.code.Code.{Code}
use Rattle.dn_line.specs.declared.code.Code.TheVariants.{TooLong}
use Rattle.dn_line.specs.declared.line.Line.{Line}
use Rattle.dn_line.specs.declared.line.Line.TheVariants as Item
use Rattle.dn_line.specs.Words.{said_words}
use Rattle.dn_line.specs.Reading.{words_read}
use Rattle.dn_instance.specs.Instances.{Instance, MinCostFlow, MaxFlow, ShortestPaths}
use Rattle.dn_instance.specs.Readers.{ended}
use Rattle.dn_instance.specs.TextFaults.{is_too_long}
use Rattle.dn_arc_lines.specs.declared.arc_line.ArcLine.{ArcLine}

-- the arc line of the item of the line with this number, if it is an arc line
abbrev pub arc_line_in : ℕ → Line → Option ArcLine
arc_line_in n (Item.MinArc src dst low cap cost) =
    Some (record { line = n; tail = src; head = dst; a = low; b = cap; c = cost })
arc_line_in n (Item.MaxArc src dst cap) =
    Some (record { line = n; tail = src; head = dst; a = cap; b = pos 0; c = pos 0 })
arc_line_in n (Item.SpArc src dst length) =
    Some (record { line = n; tail = src; head = dst; a = length; b = pos 0; c = pos 0 })
arc_line_in n _ = None

-- the kind that an item declares, if it is a problem
abbrev pub kind_in : Line → Option Kind
kind_in (Item.Graph kind nodes arcs) = Some kind
kind_in (Item.Aux kind count) = Some kind
kind_in _ = None

-- what the line with this number reads as by itself, if this kind is known of the lines before it
abbrev pub read_by_itself : Option Kind → ℕ → List ℕ → Result Line Code
read_by_itself known n l = cond (is_too_long n) (Err TooLong) (words_read known (said_words l))

-- the arc line that a line with this number reads as, if it reads as one
abbrev pub arc_line_read : ℕ → Result Line Code → List ArcLine
arc_line_read n (Ok i) = option_to_list (arc_line_in n i)
arc_line_read n (Err code) = []

-- the kind that is known after a line, if this one is known before it
abbrev pub kind_then : Option Kind → Result Line Code → Option Kind
kind_then known (Ok i) = option_or known (kind_in i)
kind_then known (Err code) = known

-- the fault of a line with this number, with the number
abbrev pub fault_read : ℕ → Result Line Code → Option (ℕ × Code)
fault_read n (Ok i) = None
fault_read n (Err code) = Some (n, code)

-- the arc lines among these lines, which follow n lines after which this kind is known
abbrev pub arc_lines_from : Option Kind → ℕ → List (List ℕ) → List ArcLine
arc_lines_from known n [] = []
arc_lines_from known n (l ∷ ls) =
    arc_line_read (n + 1) (read_by_itself known (n + 1) l)
    ++ arc_lines_from (kind_then known (read_by_itself known (n + 1) l)) (n + 1) ls

-- the first of these lines that has a fault by itself, with its number and its fault
abbrev pub fault_from : Option Kind → ℕ → List (List ℕ) → Option (ℕ × Code)
fault_from known n [] = None
fault_from known n (l ∷ ls) =
    option_or (fault_read (n + 1) (read_by_itself known (n + 1) l))
    (fault_from (kind_then known (read_by_itself known (n + 1) l)) (n + 1) ls)

-- the arc lines among the complete lines of a text
abbrev pub arc_lines : List ℕ → List ArcLine
arc_lines t = arc_lines_from None 0 (ended t)

-- the first complete line of a text that has a fault by itself
abbrev pub own_fault : List ℕ → Option (ℕ × Code)
own_fault t = fault_from None 0 (ended t)

-- the arc line, without the number of its line
abbrev pub without_line : ArcLine → ArcLine
without_line a = record { line = 0; tail = a.tail; head = a.head; a = a.a; b = a.b; c = a.c }

-- the arc lines, without the numbers of their lines
abbrev pub without_lines : List ArcLine → List ArcLine
without_lines arcs = map without_line arcs

-- the arcs of an instance in the order of its text, as arc lines without numbers
abbrev pub arcs_in : Instance → List ArcLine
arcs_in (MinCostFlow supplies graph) =
    map (λ x. record { line = 0; tail = x.0.0; head = x.0.1; a = x.1.low; b = x.1.cap; c = x.1.cost }) graph.arcs
arcs_in (MaxFlow source sink graph) =
    map (λ x. record { line = 0; tail = x.0.0; head = x.0.1; a = x.1.cap; b = pos 0; c = pos 0 }) graph.arcs
arcs_in (ShortestPaths graph) =
    map (λ x. record { line = 0; tail = x.0.0; head = x.0.1; a = x.1.length; b = pos 0; c = pos 0 }) graph.arcs
arcs_in _ = []

-- the arcs among these items
abbrev pub arcs_among : List Line → List ArcLine
arcs_among items = filter_map (arc_line_in 0) items
