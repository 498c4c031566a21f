use Rattle.std.proofs.Common.{ap, ◌∙◌, rules}
use Rattle.dn_instance.specs.State.LineRefusals.{refused_at}
use Rattle.dn_instance.proofs.reader.Reader.refuse.Goals as goal

pub returns-clause-said : goal.returns-clause-said
returns-clause-said c ls h =
    c.refused_at-refusal.ensures ∙ ap (λ n. refused_at n c.args.fault) (c.next_number.ensures ls h)

pub returns-clause-refusal : goal.returns-clause-refusal
returns-clause-refusal c = search rules
