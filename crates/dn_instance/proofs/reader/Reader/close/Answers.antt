use Rattle.std.proofs.Common.{Err, ap, subst, sym}
use Rattle.dn_instance.specs.State.TextsSoFar.{TextAt}
use Rattle.dn_instance.proofs.ReaderLaws.{refuses_next}
use Rattle.dn_instance.proofs.reader.Reader.close.Goals as goal

pub returns-in-Err-clause-taken : goal.returns-in-Err-clause-taken
returns-in-Err-clause-taken c ls l h stands =
    let at = c.in-Err.ensures.unchanged ls h in
    refuses_next c.refuse.new.self ls l.bytes c.in-Err.fault c.refuse.result
    (subst (λ t. TextAt t ls) (sym c.refuse.ensures.text) at) c.refuse.ensures.refusal (c.refuse.ensures.said ls at)
    (c.in-Err.ensures.answer ls l h stands) (λ e. c.in-Err.ensures.item ls l h stands (ap Err e))
