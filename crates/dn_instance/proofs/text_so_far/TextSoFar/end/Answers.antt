use Rattle.std.proofs.Common.{rules, FitsSigned, w64, sym, ◌∙◌, to_z-of_z}
use Rattle.dn_instance.specs.Texts.{items_of}
use Rattle.dn_instance.proofs.EndLaws.{ends_whole, ends_early}
use Rattle.dn_instance.proofs.text_so_far.TextSoFar.end.Goals as goal

pub returns-then-due-gt0 : goal.returns-then-due-gt0
returns-then-due-gt0 c ls h =
    let due : FitsSigned w64 c.args.self.due = search rules in
    ends_early c.args.self (items_of ls) c.in-Some.body h.items_are c.in-Some.is c.in-Some-terminals.terminals
    (rw c.kind.ensures at (sym c.terminals.ensures ∙ c.in-Some-terminals.is)) (simp to_z-of_z at c.if-due-gt0.true)

pub returns : goal.returns
returns c ls h =
    let nodes : FitsSigned w64 c.args.self.nodes = search rules in
    let count : FitsSigned w64 c.args.self.count = search rules in
    let due : FitsSigned w64 c.args.self.due = search rules in
    ends_whole c.args.self (items_of ls) c.in-Some.body h.items_are c.in-Some.is c.end.result c.new.result
    c.in-Some-terminals.terminals c.end.ensures
    (rw c.kind.ensures at (sym c.terminals.ensures ∙ c.in-Some-terminals.is)) (simp to_z-of_z at c.if-due-gt0.false)
    (simp to_z-of_z at c.new.ensures.nodes) (simp to_z-of_z at c.new.ensures.lines) c.new.ensures.contents
