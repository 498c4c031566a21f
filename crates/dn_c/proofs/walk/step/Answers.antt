use Rattle.std.proofs.Common.{drop, sym, ap, subst, ◌∙◌, drop-drop, Some}
use Rattle.dn_c.specs.State.Walks.{IsLeft}
use Rattle.dn_c.proofs.WalkLaws.{goes_on, goes_past, listed_in}
use Rattle.dn_c.proofs.walk.step.Goals as goal

pub returns-in-Some-next_arc : goal.returns-in-Some-next_arc
returns-in-Some-next_arc g c =
    let lists = g.B.Bundle.bundle.listed c.args.form in
    let stands = sym c.in-Some.ensures.steps ∙ c.loop-pair.invariant.stands in
    record {
      steps = λ left h.
          let here = subst (λ l. IsLeft lists l c.loop-pair.taken left) c.in-Some.ensures.steps
          (c.loop-pair.invariant.left left h) in
          let gone = goes_on lists (c.in-Some.pair, c.in-Some.bundle.now) c.next.new.self left c.loop-pair.taken
          c.in-Some-next_arc.arc here c.in-Some-next_arc.ensures.next in (
            gone.0,
            gone.1,
            subst (λ l. IsLeft lists l (Some c.in-Some-next_arc.arc) gone.0) stands gone.2,
          );
      listed =
          listed_in lists c.args.table.now c.loop-pair.at (c.in-Some.pair, c.in-Some.bundle.now) c.next.new.self
          (sym stands) c.in-Some-next_arc.arc c.in-Some-next_arc.ensures.listed;
    }

pub loop-pair-preserved : goal.loop-pair-preserved
loop-pair-preserved g c =
    let lists = g.B.Bundle.bundle.listed c.args.form in
    record {
      left = λ left h. goes_past lists (c.in-Some.pair, c.in-Some.bundle.now) c.next.new.self left c.loop-pair.taken
          (subst (λ l. IsLeft lists l c.loop-pair.taken left) c.in-Some.ensures.steps
          (c.loop-pair.invariant.left left h))
          c.in_default.ensures.next;
      stands = ap (drop 1) (sym c.in-Some.ensures.steps ∙ c.loop-pair.invariant.stands)
          ∙ drop-drop 1 c.loop-pair.at c.args.table.now;
    }
