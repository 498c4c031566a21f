use Rattle.std.proofs.Common.{ap, sym, ◌∙◌}
use Rattle.dn_sink.specs.State.Matches.{Matched}
use Rattle.dn_sink.proofs.MatchLaws.{other_than_text}
use Rattle.dn_sink.proofs.matcher.Matcher.is_match.Goals as goal

pub returns-else-is_none-clause-same : goal.returns-else-is_none-clause-same
returns-else-is_none-clause-same c = (
  λ y. cc,
  λ e. absurd (other_than_text c.self.inside.text.now c.self.inside.matched c.self.inside.other c.self.inside.failed
      c.self.invariant c.if-is_none.ensures
      (ap (λ (m : Matched). m.put) c.self.view_is ∙ e ∙ sym (ap (λ (m : Matched). m.text) c.self.view_is))),
)
