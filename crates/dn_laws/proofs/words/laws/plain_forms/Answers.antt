use Rattle.std.proofs.Common.{[], ◌∷◌, None, codes, refl}
use Rattle.clap.proofs.OnLiterals.{clap_on_literals}
use Rattle.dn_command.specs.Commands.{Canon, Check, Compare, Show}
use Rattle.dn_arc_theory.specs.declared.arc.Form.TheVariants.{One}
use Rattle.dn_laws.proofs.words.ReadLaws.{answered, form_refs}
use Rattle.dn_laws.proofs.words.LineLaws.{line_reads, name_then, no_more}
use Rattle.dn_laws.proofs.words.laws.plain_forms.Goals as goal

pub returns : goal.returns
unfolding clap_on_literals
returns c = record {
  show = λ program name r is.
      answered _ (Show name)
      (λ p q s. line_reads (form_refs p q s) program (codes "show") (name ∷ [])
      refl refl refl (name_then is refl no_more) refl refl) r;
  check = λ program name r is.
      answered _ (Check name None)
      (λ p q s. line_reads (form_refs p q s) program (codes "check") (name ∷ [])
      refl refl refl (name_then is refl no_more) refl refl) r;
  canon = λ program name r is.
      answered _ (Canon name One)
      (λ p q s. line_reads (form_refs p q s) program (codes "canon") (name ∷ [])
      refl refl refl (name_then is refl no_more) refl refl) r;
  compare = λ program left right r is_left is_right.
      answered _ (Compare left right)
      (λ p q s. line_reads (form_refs p q s) program (codes "compare") (left ∷ right ∷ [])
      refl refl refl (name_then is_left refl (name_then is_right refl no_more)) refl refl) r;
}
