use Rattle.std.proofs.Common.{◌≡◌, ◌+◌, ℤ, pos, drop, get_or, refl, sym, ◌∙◌, ap, ℕ, List, length, ◌<◌, ◌∷◌}
use Rattle.std.proofs.lemmas.List.{drop_more}
use Rattle.dn_instance.specs.Companions.{within}
use Rattle.dn_instance.proofs.CompanionLaws.{node_fits, node_stops}
use Rattle.dn_instance.proofs.companion.check_ids.Goals as goal

whole : (nodes : ℤ) (ids : List ℤ) (i : ℕ) → i < length ids → within nodes (drop i ids) ≡ within nodes ids
    → within nodes (get_or ids i (pos 0) ∷ drop (i + 1) ids) ≡ within nodes ids
whole nodes ids i some e = sym (ap (within nodes) (drop_more ids i (pos 0) some)) ∙ e

pub loop-id-init : goal.loop-id-init
loop-id-init c = refl

pub returns-in-Err : goal.returns-in-Err
returns-in-Err c =
    node_stops c.args.nodes.now _ (drop (c.loop-id.id-index + 1) c.args.ids.now) c.in-Err.fault c.in-Err.ensures
    ∙ whole c.args.nodes.now c.args.ids.now c.loop-id.id-index c.loop-id-test.true c.loop-id.invariant

pub loop-id-preserved : goal.loop-id-preserved
loop-id-preserved c =
    node_fits c.args.nodes.now _ (drop (c.loop-id.id-index + 1) c.args.ids.now) c.in_default.ensures
    ∙ whole c.args.nodes.now c.args.ids.now c.loop-id.id-index c.loop-id-test.true c.loop-id.invariant
