use Rattle.std.proofs.Common.{[], ◌∷◌, ◌++◌, Some, codes, refl}
use Rattle.clap.proofs.OnLiterals.{clap_on_literals}
use Rattle.dn_command.specs.Commands.{Check}
use Rattle.dn_laws.proofs.words.ReadLaws.{answered, form_refs}
use Rattle.dn_laws.proofs.words.LineLaws.{line_reads, name_then, no_more, value_then, word_then}
use Rattle.dn_laws.proofs.words.laws.companions.Goals as goal

pub returns : goal.returns
unfolding clap_on_literals
returns c = record {
  after = λ program name companion r is_text is_companion.
      answered _ (Check name (Some companion))
      (λ p q s. line_reads (form_refs p q s) program (codes "check") (name ∷ codes "--with" ∷ companion ∷ [])
      refl refl refl (name_then is_text refl (word_then refl (value_then is_companion no_more))) refl refl) r;
  before = λ program name companion r is_text is_companion.
      answered _ (Check name (Some companion))
      (λ p q s. line_reads (form_refs p q s) program (codes "check") (codes "--with" ∷ companion ∷ name ∷ [])
      refl refl refl (word_then refl (value_then is_companion (name_then is_text refl no_more))) refl refl) r;
  equals = λ program name companion r is.
      answered _ (Check name (Some companion))
      (λ p q s. line_reads (form_refs p q s) program (codes "check") (name ∷ (codes "--with=" ++ companion) ∷ [])
      refl refl refl (name_then is refl (word_then refl no_more)) refl refl) r;
}
