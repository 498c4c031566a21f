use Rattle.std.proofs.Common.{◌≡◌, ◌<◌, length, rules, arith, ap, sym, ◌∙◌, slice_get, get_or, pos, ◌++◌, insert}
use Rattle.std.proofs.lemmas.Grind.{common_steps}
use Rattle.std.proofs.lemmas.Option.{slice_get-get_or}
use Rattle.dn_bundle.specs.declared.steps.Steps.TheInside.{Inside}
use Rattle.dn_bundle.proofs.SpotLaws.{moved_last, stays_few, last_entry}
use Rattle.dn_bundle.proofs.steps.Steps.insert_few.Goals as goal
use Rattle.dn_bundle.proofs.steps.Steps.insert_few.Goals.{then-is_full+in_ok-insert, else-is_full}

pub returns-clause-ok : goal.returns-clause-ok
returns-clause-ok c =
    let few = c.self.inside.few.items in
    let rest = c.self.inside.rest.entries in
    let now = c.args.self.now in
    let step = c.args.step in
    let at = c.args.at in
    ap (λ l. l ++ c.if-is_full.self-inside.rest.entries) c.insert-2.ensures.items
    ∙ elim c.if-is_full.branch [
      | then-is_full+in_ok-insert w ↦
          let m = w.deref.result.now in
          let last = get_or m 3 (pos 0, pos 0) in
          let l : length few ≡ 4 = grind (arith, common_steps, w.if-is_full.ensures.value) in
          let k : length m ≡ 4 = ap length w.deref.ensures.0 ∙ l in
          ap (λ (s : Inside). insert s.few.items at step ++ s.rest.entries) w.self-inside-is
          ∙ moved_last few w.pop.new.self.items rest w.insert.new.self.entries now w.pop.result last step at l
          w.pop.ensures.items w.pop.ensures.value
          (ap (λ l. slice_get l 3) (sym w.deref.ensures.0) ∙ slice_get-get_or m 3 (pos 0, pos 0) (omega (arith, k)))
          c.requires.few c.self.view_is c.requires.steps
          (last_entry rest w.insert.new.self.entries last (search rules) (search rules) w.in_ok-insert.ensures.entries)
      | else-is_full w ↦
          let l : length few < 4 = grind (arith, common_steps, w.if-is_full.ensures.value, c.is_full.ensures.fits) in
          ap (λ (s : Inside). insert s.few.items at step ++ s.rest.entries) w.self-inside-is
          ∙ stays_few few rest now step at c.self.invariant l c.self.view_is
    ]
