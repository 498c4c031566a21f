use Rattle.std.proofs.Common.{refl}
use Rattle.dn_line.specs.declared.kind.Kind.TheVariants.{Max, Min}
use Rattle.dn_instance.proofs.RowTakes.{supply_read, terminal_read}
use Rattle.dn_instance.proofs.text_so_far.TextSoFar.take_node.Goals as goal

pub returns-then-has_terminals-clause-taken : goal.returns-then-has_terminals-clause-taken
returns-then-has_terminals-clause-taken c =
    terminal_read c.args.self.now _ c.args.row.now c.take_terminal.result
    (c.has_terminals.ensures.yes c.if-has_terminals.true)
    (rw c.letter_named-letter.ensures at (c.take_terminal.ensures.taken Max refl))

pub returns-else-has_terminals-clause-taken : goal.returns-else-has_terminals-clause-taken
returns-else-has_terminals-clause-taken c =
    supply_read c.args.self.now _ c.args.row.now c.take_supply.result
    (c.has_terminals.ensures.no c.if-has_terminals.false) (c.take_supply.ensures.taken Min refl)
