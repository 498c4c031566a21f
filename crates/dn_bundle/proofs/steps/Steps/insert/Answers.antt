use Rattle.std.proofs.Common.{◌<◌, ◌++◌, ◌∙◌, length, rules, arith, ap}
use Rattle.std.proofs.lemmas.Grind.{common_steps}
use Rattle.dn_bundle.proofs.StepLaws.{less, not_less, ok_so, err_so, on_err}
use Rattle.dn_bundle.proofs.SpotLaws.{get_below, rest_put, rest_lacks, push_put, other_put, other_lacks, merged_put, sum_fits_held, rest_steps, rest_fits, sum_held, sum_held_fits, within}
use Rattle.dn_bundle.proofs.steps.Steps.insert.Goals as goal

pub overflow_add-held : goal.overflow_add-held
overflow_add-held c =
    let xs = c.self.inside.few.items in
    let ys = c.self.inside.rest.entries in
    let is = rw c.deref.ensures.0 at c.place_in-at.ensures.place in
    let here = rw (c.held_in.ensures, c.deref-2.ensures.0) at c.in-Some.is in
    sum_held_fits c.in-Some.held c.args.step (search rules) (search rules)
    (sum_fits_held xs ys c.args.self.now c.args.step c.place_in-at.result is c.self.view_is c.in-Some.held here
    c.requires.some c.requires.steps c.requires.fits)

pub bounds-deref_mut-at : goal.bounds-deref_mut-at
bounds-deref_mut-at c =
    let here = rw (c.held_in.ensures, c.deref-2.ensures.0) at c.in-Some.is in
    rw c.deref_mut.ensures.value (get_below c.self.inside.few.items c.place_in-at.result c.in-Some.held here)

pub insert_few-requires-clause-within : goal.insert_few-requires-clause-within
insert_few-requires-clause-within c =
    let here = rw (c.held_in.ensures, c.deref-2.ensures.0) at c.in-Some.is in
    within c.self.inside.few.items c.self.inside.rest.entries c.args.self.now c.place_in-at.result c.in-Some.held
    c.self.view_is here

pub insert_few-requires-clause-few : goal.insert_few-requires-clause-few
insert_few-requires-clause-few c =
    let here = rw c.held_in.ensures at c.in-Some.is in
    let below = get_below c.deref-2.result.now c.place_in-at.result c.in-Some.held here in
    omega (arith, below, c.deref-2.ensures.1)

pub put_in-requires-clause-steps : goal.put_in-requires-clause-steps
put_in-requires-clause-steps c =
    let xs = c.self.inside.few.items in
    let ys = c.self.inside.rest.entries in
    let is = rw c.deref.ensures.0 at c.place_in-at.ensures.place in
    rest_steps xs ys c.args.self.now c.args.step c.place_in-at.result is c.self.view_is c.requires.steps

pub put_in-requires-clause-fits : goal.put_in-requires-clause-fits
put_in-requires-clause-fits c =
    let xs = c.self.inside.few.items in
    let ys = c.self.inside.rest.entries in
    let is = rw c.deref.ensures.0 at c.place_in-at.ensures.place in
    rest_fits xs ys c.args.self.now c.args.step c.place_in-at.result is c.self.view_is c.requires.steps c.requires.fits

pub returns-then-step-held-clause-ok : goal.returns-then-step-held-clause-ok
returns-then-step-held-clause-ok c =
    let xs = c.self.inside.few.items in
    let ys = c.self.inside.rest.entries in
    let is = rw c.deref.ensures.0 at c.place_in-at.ensures.place in
    let here = rw (c.held_in.ensures, c.deref-2.ensures.0) at c.in-Some.is in
    ok_so c.insert_few.result (other_put xs ys c.args.self.now c.args.step c.place_in-at.result is c.self.view_is
    c.in-Some.held here c.insert_few.new.self
    (less c.args.step.0 c.in-Some.held.0 (search rules) (search rules) c.if-step-held.true)) c.insert_few.ensures.ok

pub returns-then-step-held-clause-memory : goal.returns-then-step-held-clause-memory
returns-then-step-held-clause-memory c =
    let xs = c.self.inside.few.items in
    let ys = c.self.inside.rest.entries in
    let is = rw c.deref.ensures.0 at c.place_in-at.ensures.place in
    let here = rw (c.held_in.ensures, c.deref-2.ensures.0) at c.in-Some.is in
    on_err c.insert_few.result
    (other_lacks xs ys c.args.self.now c.args.step c.place_in-at.result is c.self.view_is c.in-Some.held here
    (less c.args.step.0 c.in-Some.held.0 (search rules) (search rules) c.if-step-held.true) c.requires.steps)

pub returns-else-step-held-clause-ok : goal.returns-else-step-held-clause-ok
returns-else-step-held-clause-ok c =
    let xs = c.self.inside.few.items in
    let ys = c.self.inside.rest.entries in
    let is = rw c.deref.ensures.0 at c.place_in-at.ensures.place in
    let here = rw (c.held_in.ensures, c.deref-2.ensures.0) at c.in-Some.is in
    merged_put xs ys c.args.self.now c.args.step c.place_in-at.result is c.self.view_is c.in-Some.held here
    c.deref_mut.result.now _
    (not_less c.args.step.0 c.in-Some.held.0 (search rules) (search rules) c.if-step-held.false)
    c.deref_mut.ensures.value
    (sum_held c.in-Some.held c.args.step (search rules) (search rules) (search rules)
    (sum_fits_held xs ys c.args.self.now c.args.step c.place_in-at.result is c.self.view_is c.in-Some.held here
    c.requires.some c.requires.steps c.requires.fits))

pub returns-then-is_full-clause-ok : goal.returns-then-is_full-clause-ok
returns-then-is_full-clause-ok c =
    let xs = c.self.inside.few.items in
    let ys = c.self.inside.rest.entries in
    let is = rw c.deref.ensures.0 at c.place_in-at.ensures.place in
    let here = rw (c.held_in.ensures, c.deref-2.ensures.0) at c.in-None.is in
    ok_so c.put_in.result
    (rest_put xs ys c.args.self.now c.args.step c.place_in-at.result is c.self.view_is c.put_in.new.map.entries here)
    c.put_in.ensures.ok

pub returns-then-is_full-clause-err : goal.returns-then-is_full-clause-err
returns-then-is_full-clause-err c =
    err_so c.put_in.result (λ e. ap (λ l. c.self.inside.few.items ++ l) e ∙ c.self.view_is) c.put_in.ensures.err

pub returns-then-is_full-clause-memory : goal.returns-then-is_full-clause-memory
returns-then-is_full-clause-memory c =
    let xs = c.self.inside.few.items in
    let ys = c.self.inside.rest.entries in
    let is = rw c.deref.ensures.0 at c.place_in-at.ensures.place in
    let here = rw (c.held_in.ensures, c.deref-2.ensures.0) at c.in-None.is in
    err_so c.put_in.result
    (rest_lacks xs ys c.args.self.now c.args.step c.place_in-at.result is c.self.view_is here) c.put_in.ensures.memory

pub returns-else-is_full-clause-ok : goal.returns-else-is_full-clause-ok
returns-else-is_full-clause-ok c =
    let xs = c.self.inside.few.items in
    let ys = c.self.inside.rest.entries in
    let is = rw c.deref.ensures.0 at c.place_in-at.ensures.place in
    let here = rw (c.held_in.ensures, c.deref-2.ensures.0) at c.in-None.is in
    let few : length xs < 4 = grind (arith, common_steps, c.if-is_full.ensures.value, c.is_full.ensures.fits) in
    push_put xs ys c.args.self.now c.args.step c.place_in-at.result is c.self.view_is c.push.new.self.items here
    c.self.invariant few c.push.ensures.items
