use Rattle.std.proofs.Common.{◌≡◌, ℤ, sym, ◌∙◌, ap, false}
use Rattle.std.specs.List.{list_any}
use Rattle.std.specs.Map.{keys_of, lookup}
use Rattle.std.proofs.lemmas.Map.Keys.{IsDistinct-from_sorted}
use Rattle.dn_arc_theory.specs.Pairs.{pair_cmp, same_pair}
use Rattle.pair_index.specs.State.Positions.{key_at}
use Rattle.dn_table.proofs.PairLaws.{key_is}
use Rattle.dn_table.proofs.GrownLaws.{lookup_none, found_at}
use Rattle.dn_table.proofs.table.Table.get.Goals as goal

pub returns-in-Some : goal.returns-in-Some
returns-in-Some g c =
    let es = c.self.inside.entries.items in
    let lt = rw c.deref.ensures.value at c.in-Some.ensures.0 in
    let there =
    key_is c.args.src c.args.dst c.ranges.src c.ranges.dst
    (λ (k : ℤ × ℤ). key_at (keys_of c.deref.result.now) c.in-Some.position ≡ k) c.in-Some.ensures.1 in
    let at = rw c.deref.ensures.value at there in
    sym
    (found_at (c.args.src, c.args.dst) es (IsDistinct-from_sorted pair_cmp (keys_of es) c.self.invariant)
    c.in-Some.position c.index.result.now lt at c.index.ensures)
    ∙ ap (lookup (same_pair (c.args.src, c.args.dst))) c.self.view_is

pub returns-in-None : goal.returns-in-None
returns-in-None g c =
    let there =
    key_is c.args.src c.args.dst c.ranges.src c.ranges.dst
    (λ (k : ℤ × ℤ). list_any (same_pair k) (keys_of c.deref.result.now) ≡ false) c.in-None.ensures in
    sym (lookup_none (c.args.src, c.args.dst) c.deref.result.now there)
    ∙ ap (lookup (same_pair (c.args.src, c.args.dst))) (c.deref.ensures.value ∙ c.self.view_is)
