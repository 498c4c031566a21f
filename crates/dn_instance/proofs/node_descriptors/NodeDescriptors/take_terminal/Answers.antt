use Rattle.dn_instance.proofs.DescriptorLaws.{sink_same, sink_taken, source_same, source_taken}
use Rattle.dn_instance.proofs.node_descriptors.NodeDescriptors.take_terminal.Goals as goal

pub returns-in-S-clause-taken : goal.returns-in-S-clause-taken
returns-in-S-clause-taken c =
    let took = c.set_terminal.ensures in
    source_taken c.args.nodes.now c.args.id.now c.args.self.now _ c.set_terminal.result c.args.letter c.in-S.is
    took.answer took.ok took.memory

pub returns-in-S-clause-unchanged : goal.returns-in-S-clause-unchanged
returns-in-S-clause-unchanged c =
    source_same c.args.nodes.now c.args.id.now c.args.self.now _ _ c.set_terminal.ensures.err

pub returns-in-T-clause-taken : goal.returns-in-T-clause-taken
returns-in-T-clause-taken c =
    let took = c.set_terminal-in-T.ensures in
    sink_taken c.args.nodes.now c.args.id.now c.args.self.now _ c.set_terminal-in-T.result c.args.letter c.in-T.is
    took.answer took.ok took.memory

pub returns-in-T-clause-unchanged : goal.returns-in-T-clause-unchanged
returns-in-T-clause-unchanged c =
    sink_same c.args.nodes.now c.args.id.now c.args.self.now _ _ c.set_terminal-in-T.ensures.err
