-- What the problem line of a text declares (DIMACS First and Ninth Challenge formats: `p KIND NODES ARCS`; the
-- companions of the Ninth: `p aux KIND .. K`).
use Rattle.std.specs.Prelude.{List, Option}
use Rattle.std.specs.Option.{option_map}
use Rattle.dn_line.specs.declared.line.Line.{Line}
use Rattle.dn_instance.specs.Items.{Problem, problem_of}
use Rattle.dn_instance.specs.declared.declared.Declared.{Declared}

-- what these items declare, if a problem line is among them
abbrev pub declared_in : List Line → Option Declared
declared_in items =
    option_map (λ (p : Problem). record { kind = p.kind; nodes = p.nodes; lines = p.count }) (problem_of items)
