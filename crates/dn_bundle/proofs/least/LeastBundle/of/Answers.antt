use Rattle.std.proofs.Common.{[], ◌∷◌, rules, to_z, of_z, w64}
use Rattle.std.proofs.lemmas.Int.{to_z-of_z}
use Rattle.dn_arc_theory.proofs.LengthsLaws.{length_meaning, first_length}
use Rattle.dn_bundle.proofs.least.LeastBundle.of.Goals as goal

pub returns-clause-ok : goal.returns-clause-ok
returns-clause-ok c =
    let w = c.args.arc.length in (
      rw (to_z-of_z w64 w (search rules)) (length_meaning.same_refl (c.args.arc ∷ [])),
      first_length (record { length = to_z w64 (of_z w64 w) }) [],
    )
