use Rattle.std.proofs.Common.{ℤ, ◌∙◌, ap, ◌∷◌, []}
use Rattle.std.proofs.lemmas.List.{map-append}
use Rattle.std.specs.List.{list_any}
use Rattle.std.specs.Map.{keys_of, lookup}
use Rattle.dn_arc_theory.specs.Pairs.{same_pair}
use Rattle.dn_arc_theory.proofs.PairLaws.{pair_self}
use Rattle.pair_index.proofs.SortLaws.{lookups_still}
use Rattle.dn_table.proofs.PairLaws.{other_pair}
use Rattle.dn_table.proofs.GrownLaws.{push_found, push_other, any_none}
use Rattle.dn_table.proofs.table_so_far.TableSoFar.insert.Goals as goal

pub note_next-requires-clause-indexed : goal.note_next-requires-clause-indexed
note_next-requires-clause-indexed g c = c.self.invariant

pub note_next-requires-clause-fresh : goal.note_next-requires-clause-fresh
note_next-requires-clause-fresh g c =
    ap (λ es. list_any (same_pair c.args.pair) (keys_of es)) c.self.view_is
    ∙ any_none c.args.pair c.args.self.now c.requires

pub invariant_of-self : goal.invariant_of-self
invariant_of-self g c =
    let e : (ℤ × ℤ) × g.row.B.Denot = (c.args.pair, c.args.bundle) in
    let fs = c.note_next.new.entries.items in
    rw (ap keys_of c.push_reserved.ensures.items ∙ map-append (λ (x : (ℤ × ℤ) × g.row.B.Denot). x.0) fs (e ∷ []))
    c.in-Ok.ensures.ok

pub push_reserved-requires : goal.push_reserved-requires
push_reserved-requires g c = c.in-Ok.ensures.room

pub returns-in-Ok-clause-there : goal.returns-in-Ok-clause-there
returns-in-Ok-clause-there g c =
    let fs = c.note_next.new.entries.items in
    ap (lookup (same_pair c.args.pair)) c.push_reserved.ensures.items
    ∙ push_found (same_pair c.args.pair) (c.args.pair, c.args.bundle) fs
    (lookups_still c.self.inside.entries.items fs c.note_next.ensures.moved c.self.invariant.apart c.args.pair
    ∙ ap (lookup (same_pair c.args.pair)) c.self.view_is ∙ c.requires) (pair_self c.args.pair)

pub returns-in-Ok-clause-others : goal.returns-in-Ok-clause-others
returns-in-Ok-clause-others g c q other =
    let fs = c.note_next.new.entries.items in
    ap (lookup (same_pair q)) c.push_reserved.ensures.items
    ∙ push_other (same_pair q) (c.args.pair, c.args.bundle) fs (other_pair c.args.pair q other)
    ∙ lookups_still c.self.inside.entries.items fs c.note_next.ensures.moved c.self.invariant.apart q
    ∙ ap (lookup (same_pair q)) c.self.view_is
