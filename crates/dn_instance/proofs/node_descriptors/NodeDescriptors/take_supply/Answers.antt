use Rattle.dn_instance.proofs.DescriptorLaws.{supply_same, supply_taken}
use Rattle.dn_instance.proofs.node_descriptors.NodeDescriptors.take_supply.Goals as goal

pub returns-clause-taken : goal.returns-clause-taken
returns-clause-taken c =
    supply_taken c.args.nodes.now c.args.id.now c.args.flow.now c.args.self.now _ _ c.insert_supply.ensures.answer
    c.insert_supply.ensures.ok

pub returns-clause-unchanged : goal.returns-clause-unchanged
returns-clause-unchanged c =
    supply_same c.args.nodes.now c.args.id.now c.args.flow.now c.args.self.now _ _ c.insert_supply.ensures.err
