-- What the items of a text make at its end.
use Rattle.std.specs.Prelude.{◌≡◌, pos, List, Some, None, Result, Ok, Err}
use Rattle.dn_line.specs.declared.code.Code.{Code}
use Rattle.dn_line.specs.declared.line.Line.{Line}
use Rattle.dn_instance.specs.Instances.{Instance}
use Rattle.dn_instance.specs.Items.{Problem, problem_of, instance_as, counted}
use Rattle.dn_instance.specs.TextFaults.{end_fault}
use Rattle.dn_instance.specs.State.Helds.{Parsed, Shows}

-- the parsed instance represents the instance that the items make of the problem that they declare; it has the NODES of
-- this problem, and the number of counted lines
pub record HoldsAll (held : Parsed) (items : List Line) : Type 0 where
  pub problem : Problem
  pub problem_is : problem_of items ≡ Some problem
  pub instance : Instance
  pub made : instance_as problem.kind problem.nodes items ≡ Some instance
  pub nodes_are : held.nodes ≡ problem.nodes
  pub lines_are : held.lines ≡ pos (counted items)
  pub shows : Shows held.contents instance

-- the result is a parsed instance that represents what the items make, if the end has no fault, and the first fault at
-- the end otherwise
abbrev pub EndsWith : List Line → Result Parsed Code → Type 0
EndsWith items (Ok held) = (end_fault items ≡ None) × HoldsAll held items
EndsWith items (Err code) = end_fault items ≡ Some code
