use Rattle.std.proofs.Common.{sym, ◌∙◌}
use Rattle.std.proofs.lemmas.Slice.Eq.{bytes_eq-Decides}
use Rattle.dn_sink.proofs.MatchLaws.{whole_piece}
use Rattle.dn_sink.proofs.matcher.same_prefix.Goals as goal

pub returns-then-starts_with : goal.returns-then-starts_with
returns-then-starts_with c =
    whole_piece c.args.text.now c.args.piece.now
    (sym ((bytes_eq-Decides _ _).0 (sym c.starts_with.ensures.value ∙ c.if-starts_with.true)))
    (c.starts_with.ensures.bound c.if-starts_with.true)
