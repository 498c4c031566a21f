use Rattle.dn_canon.proofs.ListedLaws.{listed_canon}
use Rattle.dn_canon.proofs.writer.write_graph.Goals as goal

pub returns-in-Ok-clause-canon : goal.returns-in-Ok-clause-canon
returns-in-Ok-clause-canon g c G nodes lists valid =
    listed_canon g.met.B.Bundle.laws g.B.Bundle.bundle.listed g.met.B.Bundle.canonical g.met.B.Bundle.same_forms
    g.met.B.Bundle.fit _ _ _ G nodes c.arc_count.ensures.ascending lists.stands valid

pub returns-in-Err-clause-canon : goal.returns-in-Err-clause-canon
returns-in-Err-clause-canon g c G nodes lists valid =
    listed_canon g.met.B.Bundle.laws g.B.Bundle.bundle.listed g.met.B.Bundle.canonical g.met.B.Bundle.same_forms
    g.met.B.Bundle.fit _ _ _ G nodes c.arc_count.ensures.ascending lists.stands valid

pub returns-in-None-clause-canon : goal.returns-in-None-clause-canon
returns-in-None-clause-canon g c G nodes lists valid =
    listed_canon g.met.B.Bundle.laws g.B.Bundle.bundle.listed g.met.B.Bundle.canonical g.met.B.Bundle.same_forms
    g.met.B.Bundle.fit _ _ _ G nodes c.arc_count.ensures.ascending lists.stands valid
