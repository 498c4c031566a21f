use Rattle.std.proofs.Common.{rules, ℤ, ◌<◌, ◌∷◌, IsTrue, length, map, take, drop, w64, refl, sym, ap, ◌∙◌, subst, arith}
use Rattle.std.proofs.lemmas.Int.{to_z-of_z}
use Rattle.dn_arc_theory.specs.Pairs.{bundle}
use Rattle.dn_arc_theory.specs.Splits.{IsSplit, total}
use Rattle.dn_arc_theory.specs.State.Bundles.{meant}
use Rattle.std.proofs.lemmas.List.{take-append-drop}
use Rattle.dn_flow.specs.State.Givings.{AreFilled, Fills, Fits}
use Rattle.dn_flow.proofs.SpreadLaws.{more_set, nothing_to_fill}
use Rattle.dn_flow.proofs.flow.fill.Goals as goal

pub returns-clause-fills : goal.returns-clause-fills
returns-clause-fills g c h =
    let lists = g.B.Bundle.bundle.listed c.args.form in
    let left = drop c.loop-pair.at c.loop-pair.shares in
    subst (Fills lists c.args.table.now c.args.flow.now) (take-append-drop c.loop-pair.at c.loop-pair.shares)
    (c.loop-pair.invariant.fills left
    (nothing_to_fill lists c.loop-pair._pair-iterator c.loop-pair.rest.now left c.in-None.ensures.steps.0
    (subst (λ b. IsTrue b) c.is_empty.ensures h)))

pub loop-pair-preserved : goal.loop-pair-preserved
loop-pair-preserved g c =
    let facts = g.B.Bundle.bundle in
    let lists = facts.listed c.args.form in
    let carried = g.B.Carries.carried in
    let e : (ℤ × ℤ) × _ = (c.in-Some._pair, c.in-Some.bundle.now) in
    let n = length (lists e.1) in
    let rest = c.loop-pair.rest.now in
    let share = c.in-Some-share.share in
    let units = c.in-Some-sum_of.units in
    let steps = c.in-Some.ensures.steps in
    let low : c.loop-pair.at < length c.loop-pair.shares =
    omega (arith, c.loop-pair.invariant.at, ap length steps, c.requires, c.loop-pair.auto.shares) in
    let after = c.in-Some-sum_of.ensures.rest ∙ ap (λ m. drop m rest) c.canon_len.ensures in
    let sum = c.in-Some-sum_of.ensures.sum ∙ ap (λ m. total (take m rest)) c.canon_len.ensures in
    let units_is = to_z-of_z w64 units (search rules) in
    record {
      fills = λ shares h.
          let whole = ap (λ m. length (take m rest)) (sym c.canon_len.ensures) ∙ c.in-Some-sum_of.ensures.whole
          ∙ c.canon_len.ensures in
          let left = c.in-Some-share.ensures.left ∙ units_is ∙ sum in
          let h' = subst (λ r. Fills lists c.next.new.self r shares) after h in
          subst (Fills lists c.args.table.now c.args.flow.now)
          (sym (more_set c.loop-pair.shares c.loop-pair.at share shares low))
          (c.loop-pair.invariant.fills (share ∷ shares)
          (subst (λ t. Fills lists t rest (share ∷ shares)) (sym steps) (whole, left, h')));
      fits = λ arcs f.
          let f' = subst (λ t. Fits facts.kind carried lists (meant facts) t rest arcs) steps
          (c.loop-pair.invariant.fits arcs f) in
          subst (λ r. Fits facts.kind carried lists (meant facts) c.next.new.self r arcs) (sym after) f'.6;
      all = λ arcs f shares h.
          let f' = subst (λ t. Fits facts.kind carried lists (meant facts) t rest arcs) steps
          (c.loop-pair.invariant.fits arcs f) in
          let split = subst (λ z. IsSplit (map carried (bundle e.0 arcs)) z f'.5.0) (sym (units_is ∙ sum)) f'.5.1 in
          let balanced = c.in-Some-share.ensures.shares (bundle e.0 arcs) f'.3 f'.4 f'.5.0 split in
          subst (λ l. AreFilled carried c.args.table.now l arcs)
          (sym (more_set c.loop-pair.shares c.loop-pair.at share shares low))
          (c.loop-pair.invariant.all arcs f (share ∷ shares)
          (subst (λ t. AreFilled carried t (share ∷ shares) arcs) (sym steps) (balanced, h)));
      at = search rules;
      kept = search rules;
    }

pub returns-clause-all : goal.returns-clause-all
returns-clause-all g c arcs f =
    let facts = g.B.Bundle.bundle in
    let lists = facts.listed c.args.form in
    let carried = g.B.Carries.carried in
    let left = drop c.loop-pair.at c.loop-pair.shares in
    let steps = c.in-None.ensures.steps.0 in
    let empty = subst (λ t. Fits facts.kind carried lists (meant facts) t c.loop-pair.rest.now arcs) steps
    (c.loop-pair.invariant.fits arcs f) in (
      rw (c.is_empty.ensures, empty) refl,
      subst (λ l. AreFilled carried c.args.table.now l arcs) (take-append-drop c.loop-pair.at c.loop-pair.shares)
          (c.loop-pair.invariant.all arcs f left (subst (λ t. AreFilled carried t left arcs) (sym steps) tt)),
    )
