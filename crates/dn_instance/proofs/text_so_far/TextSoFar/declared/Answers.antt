use Rattle.std.proofs.Common.{sym, ap, ◌∙◌, rules, w64, FitsSigned}
use Rattle.std.proofs.lemmas.Int.{to_z-of_z}
use Rattle.std.specs.Option.{option_map}
use Rattle.dn_instance.specs.Items.{Problem}
use Rattle.dn_instance.specs.declared.declared.Declared.{Declared}
use Rattle.dn_instance.specs.State.TextsSoFar.{problem_as}
use Rattle.dn_instance.proofs.text_so_far.TextSoFar.declared.Goals as goal

abbrev read_as : Problem → Declared
read_as p = record { kind = p.kind; nodes = p.nodes; lines = p.count }

pub returns-in-Some : goal.returns-in-Some
returns-in-Some c ls h =
    let nodes : FitsSigned w64 c.args.self.now.nodes = search rules in
    let lines : FitsSigned w64 c.args.self.now.count = search rules in
    simp to_z-of_z
    (ap (option_map read_as)
    (ap (option_map (problem_as c.args.self.now)) c.in-Some.ensures ∙ sym h.items_are.problem_is))

pub returns-in-None : goal.returns-in-None
returns-in-None c ls h =
    ap (option_map read_as)
    (ap (option_map (problem_as c.args.self.now)) c.in-None.ensures ∙ sym h.items_are.problem_is)
