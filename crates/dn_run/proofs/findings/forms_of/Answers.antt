use Rattle.std.proofs.Common.{rules, ◌≢◌, ◌∙◌}
use Rattle.dn_line.specs.declared.kind.Kind.TheVariants as Kinds
use Rattle.dn_arc_theory.specs.declared.arc.Form.TheVariants.{One, Two}
use Rattle.dn_instance.specs.Instances.{kind_of}
use Rattle.dn_instance.proofs.HeldLaws.{held_kind}
use Rattle.dn_canon.proofs.FormLaws.{canon_in}
use Rattle.dn_run.proofs.findings.forms_of.Goals as goal

pub returns-in_default : goal.returns-in_default
returns-in_default c I reads is =
    let other : kind_of I ≢ Kinds.Min =
    λ min. c.in_default.not-Min (c.kind.ensures ∙ held_kind c.args.held.now I is ∙ min) in
    let one = c.is_canon_of-one.ensures I reads is in
    record {
      one = one;
      two = (λ y. canon_in One Two _ I other (one.0 y), λ h. one.1 (canon_in Two One _ I other h));
    }

pub returns-in-Min : goal.returns-in-Min
returns-in-Min c = search rules
