use Rattle.std.proofs.Common.{◌≡◌, Some, None, ap, ◌∙◌, rules, slice_get, option_map}
use Rattle.dn_arc_theory.specs.State.CurveListed.{step_arc, fixed_arcs}
use Rattle.dn_bundle.proofs.FormLaws.{arc_past, next_free, next_fixed, or_first, past_fixed_in, past_free_in, first_free_in}
use Rattle.dn_bundle.proofs.FixedLaws.{is_zero, zero_is}
use Rattle.dn_bundle.proofs.curve.Curve.after_one.Goals as goal

pub returns-then-arc-eq0 : goal.returns-then-arc-eq0
returns-then-arc-eq0 c =
    let self = c.args.self.now in
    let found = c.free_of.ensures ∙ ap (option_map step_arc) c.step_past.ensures in
    record {
      after = λ i e.
          found ∙ next_free self.units self.cost self.total self.steps self.sound c.args.arc.now i
          (is_zero c.args.arc.now.low (search rules) c.if-arc-eq0.true) e;
      listed = past_free_in self.units self.cost self.total self.steps self.sound c.args.arc.now.cost _ found;
    }

pub returns-in-Some : goal.returns-in-Some
returns-in-Some c =
    let self = c.args.self.now in
    let found : Some c.in-Some.fixed ≡ arc_past c.args.arc.now.cost (fixed_arcs self.units self.cost) =
    c.in-Some.ensures in
    record {
      after = λ i e.
          ap (λ o. or_first o (option_map step_arc (slice_get self.steps 0))) found
          ∙ next_fixed self.units self.cost self.total self.steps self.sound c.args.arc.now i
          (λ z. c.if-arc-eq0.false (zero_is c.args.arc.now.low z)) e;
      listed = past_fixed_in self.units self.cost self.total self.steps self.sound c.args.arc.now.cost _ found;
    }

pub returns-in-None : goal.returns-in-None
returns-in-None c =
    let self = c.args.self.now in
    let found : None ≡ arc_past c.args.arc.now.cost (fixed_arcs self.units self.cost) = c.in-None.ensures in
    let first = c.free_of-in-None.ensures ∙ ap (option_map step_arc) c.first_step.ensures in
    record {
      after = λ i e.
          first ∙ ap (λ o. or_first o (option_map step_arc (slice_get self.steps 0))) found
          ∙ next_fixed self.units self.cost self.total self.steps self.sound c.args.arc.now i
          (λ z. c.if-arc-eq0.false (zero_is c.args.arc.now.low z)) e;
      listed = first_free_in self.units self.cost self.total self.steps self.sound _ first;
    }
