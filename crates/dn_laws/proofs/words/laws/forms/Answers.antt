use Rattle.std.proofs.Common.{[], ◌∷◌, codes, refl}
use Rattle.clap.proofs.OnLiterals.{clap_on_literals}
use Rattle.dn_command.specs.Commands.{Canon}
use Rattle.dn_arc_theory.specs.declared.arc.Form.TheVariants.{One, Two}
use Rattle.dn_laws.proofs.words.ReadLaws.{answered, form_refs}
use Rattle.dn_laws.proofs.words.LineLaws.{line_reads, name_then, no_more, word_then}
use Rattle.dn_laws.proofs.words.laws.forms.Goals as goal

pub returns : goal.returns
unfolding clap_on_literals
returns c = record {
  one = λ program name r is.
      answered _ (Canon name One)
      (λ p q s. line_reads (form_refs p q s) program (codes "canon") (codes "--form" ∷ codes "1" ∷ name ∷ [])
      refl refl refl (word_then refl (word_then refl (name_then is refl no_more))) refl refl) r;
  two = λ program name r is.
      answered _ (Canon name Two)
      (λ p q s. line_reads (form_refs p q s) program (codes "canon") (codes "--form" ∷ codes "2" ∷ name ∷ [])
      refl refl refl (word_then refl (word_then refl (name_then is refl no_more))) refl refl) r;
  after = λ program name r is.
      answered _ (Canon name Two)
      (λ p q s. line_reads (form_refs p q s) program (codes "canon") (name ∷ codes "--form=2" ∷ [])
      refl refl refl (name_then is refl (word_then refl no_more)) refl refl) r;
}
