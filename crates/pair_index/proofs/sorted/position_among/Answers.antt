use Rattle.std.proofs.Common.{rules}
use Rattle.std.proofs.lemmas.Fn.{always_returns_same}
use Rattle.dn_arc_theory.specs.Pairs.{pair_cmp}
use Rattle.pair_index.proofs.SortedLaws.{searchable, position_found, position_none}
use Rattle.pair_index.proofs.sorted.position_among.Goals as goal

pub returns-in-Ok : goal.returns-in-Ok
returns-in-Ok g c =
    position_found c.args.entries.now c.args.pair.now c.requires c.in-Ok.i c.in-Ok.ensures.bound
    (c.in-Ok.ensures.position (λ e. pair_cmp e.0 c.args.pair.now)
    (always_returns_same _ _ _ (λ a r q k. (search rules, search rules))))

pub returns-in-Err : goal.returns-in-Err
returns-in-Err g c =
    let parts =
    c.in-Err.ensures.position (λ e. pair_cmp e.0 c.args.pair.now)
    (always_returns_same _ _ _ (λ a r q k. (search rules, search rules)))
    (searchable c.args.entries.now c.args.pair.now c.requires) in
    position_none c.args.entries.now c.args.pair.now c.requires c.in-Err.field-0 parts.0 parts.1
