use Rattle.std.proofs.Common.{◌++◌, ◌+◌, ◌<◌, length, take, subst, refl, ap, sym, ◌∙◌, arith}
use Rattle.std.proofs.lemmas.List.{take_rest}
use Rattle.dn_sink.specs.State.Matches.{IsNoPrefix, Matched}
use Rattle.dn_sink.proofs.MatchLaws.{a_prefix, no_prefix, put_other, put_same, taken_more, taken_so_far}
use Rattle.dn_sink.proofs.matcher.MatcherSink.put.Goals as goal

pub returns-then-n-piece-clause-put : goal.returns-then-n-piece-clause-put
returns-then-n-piece-clause-put c =
    taken_so_far c.self.inside.text.now (c.self.inside.matched + c.same_prefix-n.result) c.self.inside.other
    (sym c.if-is_some.ensures)
    ∙ put_same c.self.inside.text.now c.args.piece.now c.self.inside.matched c.same_prefix-n.result
    (sym (ap (λ l. take c.same_prefix-n.result l) (take_rest c.self.inside.text.now c.self.inside.matched))
    ∙ c.same_prefix-n.ensures.same)
    ∙ ap (λ l. l ++ take c.same_prefix-n.result c.args.piece.now)
    (sym (taken_so_far c.self.inside.text.now c.self.inside.matched c.self.inside.other (sym c.if-is_some.ensures))
    ∙ ap (λ (m : Matched). m.put) c.self.view_is)

pub returns-then-n-piece-clause-turn : goal.returns-then-n-piece-clause-turn
returns-then-n-piece-clause-turn c = record {
  ok = record {
    bound = c.same_prefix-n.ensures.in_piece;
    bytes =
        taken_more c.args.self.now _ _ (take c.same_prefix-n.result c.args.piece.now)
        (ap (λ (m : Matched). m.text) c.self.view_is) (returns-then-n-piece-clause-put c);
    none = λ e some. absurd (omega (arith, e, some, c.if-n-piece.true));
    fine = λ e. ap (λ (m : Matched). m.failed) c.self.view_is;
  };
  err = tt;
}

pub returns-clause-put : goal.returns-clause-put
returns-clause-put c =
    let inside : c.same_prefix-n.result < length c.args.piece.now =
    omega (arith, c.same_prefix-n.ensures.in_piece, c.if-n-piece.false) in
    put_other c.self.inside.text.now c.args.piece.now c.self.inside.matched c.same_prefix-n.result _
    (sym (ap (λ l. take c.same_prefix-n.result l) (take_rest c.self.inside.text.now c.self.inside.matched))
    ∙ c.same_prefix-n.ensures.same) inside refl
    ∙ ap (λ l. l ++ take (c.same_prefix-n.result + 1) c.args.piece.now)
    (sym (taken_so_far c.self.inside.text.now c.self.inside.matched c.self.inside.other (sym c.if-is_some.ensures))
    ∙ ap (λ (m : Matched). m.put) c.self.view_is)

pub returns-clause-turn : goal.returns-clause-turn
returns-clause-turn c = record {
  ok = record {
    bound = omega (arith, c.same_prefix-n.ensures.in_piece, c.if-n-piece.false);
    bytes =
        taken_more c.args.self.now _ _ (take (c.same_prefix-n.result + 1) c.args.piece.now)
        (ap (λ (m : Matched). m.text) c.self.view_is) (returns-clause-put c);
    none = λ e. absurd (omega (arith, e));
    fine = λ e. ap (λ (m : Matched). m.failed) c.self.view_is;
  };
  err = tt;
}

pub returns-then-is_some-clause-fault : goal.returns-then-is_some-clause-fault
returns-then-is_some-clause-fault c = (
  λ is. subst (λ (m : Matched). IsNoPrefix m.put m.text) c.self.view_is
      (no_prefix c.self.inside.text.now c.self.inside.matched c.self.inside.other c.self.inside.failed c.self.invariant
      (sym c.if-is_some.ensures)),
  λ never. refl,
)

pub returns-then-n-piece-clause-fault : goal.returns-then-n-piece-clause-fault
returns-then-n-piece-clause-fault c = (
  λ is. cc,
  λ never. absurd (a_prefix c.self.inside.text.now c.self.inside.matched c.self.inside.other (sym c.if-is_some.ensures)
      (subst (λ (m : Matched). IsNoPrefix m.put m.text) (sym c.self.view_is) never)),
)

pub returns-clause-fault : goal.returns-clause-fault
returns-clause-fault c = (
  λ is. cc,
  λ never. absurd (a_prefix c.self.inside.text.now c.self.inside.matched c.self.inside.other (sym c.if-is_some.ensures)
      (subst (λ (m : Matched). IsNoPrefix m.put m.text) (sym c.self.view_is) never)),
)
