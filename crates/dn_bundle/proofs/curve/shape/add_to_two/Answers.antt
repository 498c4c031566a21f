use Rattle.dn_bundle.proofs.curve.shape.add_to_two.Goals as goal

pub returns-in-Some-clause-ok : goal.returns-in-Some-clause-ok
returns-in-Some-clause-ok c =
    rw c.shape-in-Some.ensures (c.with.ensures.grown _ c.in-Some.is)
