use Rattle.dn_instance.proofs.SameLaws.{refl_of}
use Rattle.dn_canon.proofs.TextLaws.{texts_agree}
use Rattle.dn_laws.proofs.texts.ExistLaws.{text_exists}
use Rattle.dn_laws.proofs.texts.laws.canonical_text.Goals as goal

pub returns : goal.returns
returns c = record {
  some = text_exists c.args.form;
  one = λ I t u h g. (texts_agree c.args.form t u I I h g).1 (refl_of I);
}
