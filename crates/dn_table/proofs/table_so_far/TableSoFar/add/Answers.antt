use Rattle.std.proofs.Common.{ℤ, ◌-◌, ◌^◌, pos, [], ◌∷◌, ◌++◌, ap, ◌∙◌}
use Rattle.std.specs.Map.{keys_of, lookup}
use Rattle.std.proofs.lemmas.List.{map-append}
use Rattle.dn_arc_theory.specs.Pairs.{same_pair}
use Rattle.dn_arc_theory.specs.State.Bundles.{meant}
use Rattle.dn_arc_theory.proofs.PairLaws.{pair_self}
use Rattle.dn_table.proofs.PairLaws.{other_pair}
use Rattle.dn_table.proofs.GrownLaws.{none_as, push_found, push_other}
use Rattle.dn_table.proofs.TableLaws.{sum_alone, grows_fresh, grows_none}
use Rattle.dn_table.proofs.NeedLaws.{needs_first, needs_fresh}
use Rattle.dn_table.proofs.table_so_far.TableSoFar.add.Goals as goal

pub returns-in_default-clause-sum : goal.returns-in_default-clause-sum
returns-in_default-clause-sum g c =
    sum_alone g.B.Bundle.bundle.kind (meant g.B.Bundle.bundle) c.args.self.now c.args.pair c.args.arc (pos (2 ^ 63 - 1))
    (none_as c.args.pair _ _ (c.deref.ensures.value ∙ c.self.view_is) (c.is_next.ensures.fresh c.if-not-is_next.false))
    c.of.ensures.fits (λ e. cc)

pub returns-in_default-one-clause-sum : goal.returns-in_default-one-clause-sum
returns-in_default-one-clause-sum g c =
    sum_alone g.B.Bundle.bundle.kind (meant g.B.Bundle.bundle) c.args.self.now c.args.pair c.args.arc (pos (2 ^ 63 - 1))
    (none_as c.args.pair _ _ (c.deref.ensures.value ∙ c.self.view_is) (c.is_next.ensures.fresh c.if-not-is_next.false))
    c.of.ensures.fits (λ e. cc)

pub returns-in-Ok-reserve-clause-sum : goal.returns-in-Ok-reserve-clause-sum
returns-in-Ok-reserve-clause-sum g c =
    sum_alone g.B.Bundle.bundle.kind (meant g.B.Bundle.bundle) c.args.self.now c.args.pair c.args.arc (pos (2 ^ 63 - 1))
    (none_as c.args.pair _ _ (c.deref.ensures.value ∙ c.self.view_is) (c.is_next.ensures.fresh c.if-not-is_next.false))
    c.of.ensures.fits (λ e. cc)

pub returns-in-Err-clause-sum : goal.returns-in-Err-clause-sum
returns-in-Err-clause-sum g c =
    sum_alone g.B.Bundle.bundle.kind (meant g.B.Bundle.bundle) c.args.self.now c.args.pair c.args.arc (pos (2 ^ 63 - 1))
    (none_as c.args.pair _ _ (c.deref.ensures.value ∙ c.self.view_is) (c.is_next.ensures.fresh c.if-not-is_next.false))
    c.of.ensures.fits (λ e. cc)

pub returns-in_default-one-clause-ok : goal.returns-in_default-one-clause-ok
returns-in_default-one-clause-ok g c =
    let bundle = g.B.Bundle.bundle in
    let made = rw c.in_default-one.is at c.in-Ok.ensures.ok in
    grows_none bundle.kind (meant bundle) c.args.self.now c.args.pair c.args.arc g.met.B.Bundle.laws.meaning
    (none_as c.args.pair _ _ (c.deref.ensures.value ∙ c.self.view_is)
    (c.is_next.ensures.fresh c.if-not-is_next.false)) made.0

pub invariant_of-self : goal.invariant_of-self
invariant_of-self g c =
    let e : (ℤ × ℤ) × g.row.B.Denot = (c.args.pair, c.in-Some.bundle) in
    let grown = c.push_reserved.ensures.items ∙ ap (λ xs. xs ++ e ∷ []) c.reserve.ensures.items in
    rw (ap keys_of grown ∙ map-append (λ (x : (ℤ × ℤ) × g.row.B.Denot). x.0) c.self.inside.entries.items (e ∷ []))
    (rw (← c.deref.ensures.value) (c.is_next.ensures.stays c.if-not-is_next.false))

pub returns-in-Ok-reserve-clause-ok : goal.returns-in-Ok-reserve-clause-ok
returns-in-Ok-reserve-clause-ok g c =
    let bundle = g.B.Bundle.bundle in
    let made = rw c.in-Some.is at c.in-Ok.ensures.ok in
    let e : (ℤ × ℤ) × g.row.B.Denot = (c.args.pair, c.in-Some.bundle) in
    let none =
    none_as c.args.pair _ _ (c.deref.ensures.value ∙ c.self.view_is)
    (c.is_next.ensures.fresh c.if-not-is_next.false) in
    let grown = c.push_reserved.ensures.items ∙ ap (λ xs. xs ++ e ∷ []) (c.reserve.ensures.items ∙ c.self.view_is) in
    grows_fresh bundle.kind (meant bundle) c.args.self.now c.push_reserved.new.self.items c.args.pair c.args.arc
    c.in-Some.bundle none
    (ap (lookup (same_pair c.args.pair)) grown
    ∙ push_found (same_pair c.args.pair) e c.args.self.now none (pair_self c.args.pair))
    (λ q other. ap (lookup (same_pair q)) grown
    ∙ push_other (same_pair q) e c.args.self.now (other_pair c.args.pair q other))
    made.0 made.1

pub returns-in_default-clause-memory : goal.returns-in_default-clause-memory
returns-in_default-clause-memory g c e =
    needs_fresh g.B.Bundle.bundle.sizes (meant g.B.Bundle.bundle) c.args.self.now c.args.pair c.args.arc
    (none_as c.args.pair _ _ (c.deref.ensures.value ∙ c.self.view_is)
    (c.is_next.ensures.fresh c.if-not-is_next.false)) c.in_default.ensures.widens

pub returns-in-Err-clause-memory : goal.returns-in-Err-clause-memory
returns-in-Err-clause-memory g c e =
    let is = rw c.in-Some.is at c.in-Ok.ensures.ok in
    needs_fresh g.B.Bundle.bundle.sizes (meant g.B.Bundle.bundle) c.args.self.now c.args.pair c.args.arc
    (none_as c.args.pair _ _ (c.deref.ensures.value ∙ c.self.view_is)
    (c.is_next.ensures.fresh c.if-not-is_next.false))
    (needs_first g.B.Bundle.bundle.kind g.B.Bundle.bundle.sizes g.met.B.Bundle.laws g.met.B.Bundle.sized c.args.arc
    (meant g.B.Bundle.bundle c.in-Some.bundle) c.requires is.0 is.1)
