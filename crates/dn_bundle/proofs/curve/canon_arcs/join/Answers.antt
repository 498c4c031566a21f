use Rattle.std.proofs.Common.{rules, ap, sym, ◌∙◌, option_map}
use Rattle.dn_arc_theory.specs.State.CurveListed.{step_arc, joined_head}
use Rattle.dn_bundle.proofs.FormLaws.{free_head, both_fit, both_head, fixed_head}
use Rattle.dn_bundle.proofs.curve.canon_arcs.join.Goals as goal

pub returns-in-None : goal.returns-in-None
returns-in-None c = sym (ap (λ o. joined_head c.args.fixed (option_map step_arc o)) c.in-None.is)

pub returns-then-step-fixed : goal.returns-then-step-fixed
returns-then-step-fixed c =
    c.free_at.ensures ∙ free_head c.args.fixed c.args.step c.in-Some.step c.in-Some.is (search rules)
    (search rules) c.if-step-fixed.true

pub overflow_add-result : goal.overflow_add-result
overflow_add-result c =
    both_fit c.args.fixed c.args.step c.in-Some.step c.in-Some.is (search rules)
    (search rules) c.if-step-fixed-2.true c.requires (search rules) (search rules) (search rules)

pub returns-then-step-fixed-2 : goal.returns-then-step-fixed-2
returns-then-step-fixed-2 c =
    both_head c.args.fixed c.args.step c.in-Some.step c.in-Some.is (search rules)
    (search rules) c.if-step-fixed-2.true c.requires (search rules) (search rules) (search rules)

pub returns-else-step-fixed-2 : goal.returns-else-step-fixed-2
returns-else-step-fixed-2 c =
    fixed_head c.args.fixed c.args.step c.in-Some.step c.in-Some.is (search rules)
    (search rules) c.if-step-fixed.false c.if-step-fixed-2.false
