use Rattle.std.proofs.Common.{subst, ◌∙◌, ap, set}
use Rattle.std.specs.Map.{lookup}
use Rattle.std.proofs.lemmas.Result.{on_ok_weaker, on_err_weaker}
use Rattle.dn_arc_theory.specs.declared.arc.Form.TheVariants.{One}
use Rattle.dn_arc_theory.specs.Pairs.{same_pair}
use Rattle.dn_table.specs.State.Tables.{Grows}
use Rattle.dn_table.proofs.TableLaws.{listed_there, sum_listed}
use Rattle.dn_table.proofs.NeedLaws.{needs_listed}
use Rattle.dn_table.proofs.GrownLaws.{lookup_none, found_at, same_then, grows_here}
use Rattle.pair_index.proofs.EntryLaws.{indexes_kept}
use Rattle.dn_table.proofs.table_so_far.TableSoFar.add_anywhere.Goals as goal

pub invariant_of-self : goal.invariant_of-self
invariant_of-self g c =
    indexes_kept c.self.inside.entries.items c.in-Some.i c.index_mut.result.now c.add.new.self
    (rw (c.self.view_is ∙ c.position.ensures.same)
    c.in-Some.ensures.position.0) c.index_mut.ensures.value c.self.inside.index c.self.invariant

pub add_fresh-requires-clause-none : goal.add_fresh-requires-clause-none
add_fresh-requires-clause-none g c =
    ap (lookup (same_pair c.args.pair)) c.position.ensures.same
    ∙ lookup_none c.args.pair c.args.self.now c.in-None.ensures.position

pub returns-in-Some-clause-ok : goal.returns-in-Some-clause-ok
returns-in-Some-clause-ok g c =
    let es = c.self.inside.entries.items in
    let old = c.self.view_is ∙ c.position.ensures.same in
    let lt = rw (← old) at c.in-Some.ensures.position.0 in
    let at = rw (← old) at c.in-Some.ensures.position.1 in
    on_ok_weaker c.add.result
    (λ same. subst
    (λ m. Grows g.B.Bundle.bundle.kind (g.B.Bundle.bundle.listed One) m
    (set es c.in-Some.i (c.index_mut.result.now.0, c.add.new.self)) c.args.pair c.args.arc) old
    (grows_here c.args.pair es c.self.invariant.apart c.in-Some.i c.index_mut.result.now lt at c.index_mut.ensures.value
    g.B.Bundle.bundle.kind (g.B.Bundle.bundle.listed One) c.args.arc c.add.new.self same))
    c.add.ensures.ok

pub returns-in-Some-clause-err : goal.returns-in-Some-clause-err
returns-in-Some-clause-err g c =
    let es = c.self.inside.entries.items in
    let old = c.self.view_is ∙ c.position.ensures.same in
    let lt = rw (← old) at c.in-Some.ensures.position.0 in
    let at = rw (← old) at c.in-Some.ensures.position.1 in
    on_err_weaker c.add.result
    (λ same. same_then c.args.pair es c.self.invariant.apart c.in-Some.i c.index_mut.result.now lt at
    c.index_mut.ensures.value c.add.new.self same ∙ old)
    c.add.ensures.err

pub returns-in-Some-clause-sum : goal.returns-in-Some-clause-sum
returns-in-Some-clause-sum g c =
    let es = c.self.inside.entries.items in
    let old = c.self.view_is ∙ c.position.ensures.same in
    let lt = rw (← old) at c.in-Some.ensures.position.0 in
    let at = rw (← old) at c.in-Some.ensures.position.1 in
    sum_listed g.B.Bundle.bundle.kind (g.B.Bundle.bundle.listed One) c.args.arc _ es c.args.self.now c.args.pair
    (g.B.Bundle.bundle.listed One c.index_mut.result.now.1) old
    (listed_there (g.B.Bundle.bundle.listed One) es c.args.pair c.index_mut.result.now.1
    (found_at c.args.pair es c.self.invariant.apart c.in-Some.i c.index_mut.result.now lt at c.index_mut.ensures.value))
    c.add.ensures.sum

pub returns-in-Some-clause-memory : goal.returns-in-Some-clause-memory
returns-in-Some-clause-memory g c e =
    let es = c.self.inside.entries.items in
    let old = c.self.view_is ∙ c.position.ensures.same in
    let lt = rw (← old) at c.in-Some.ensures.position.0 in
    let at = rw (← old) at c.in-Some.ensures.position.1 in
    needs_listed g.B.Bundle.bundle.sizes (g.B.Bundle.bundle.listed One) c.args.arc es c.args.self.now c.args.pair
    (g.B.Bundle.bundle.listed One c.index_mut.result.now.1) old
    (listed_there (g.B.Bundle.bundle.listed One) es c.args.pair c.index_mut.result.now.1
    (found_at c.args.pair es c.self.invariant.apart c.in-Some.i c.index_mut.result.now lt at c.index_mut.ensures.value))
    (c.add.ensures.widens e)
