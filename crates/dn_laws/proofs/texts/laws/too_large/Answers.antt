use Rattle.dn_instance.proofs.SameLaws.{sym_of, trans_of}
use Rattle.dn_canon.proofs.TextLaws.{canon_one}
use Rattle.dn_laws.proofs.texts.laws.too_large.Goals as goal

pub returns : goal.returns
returns c = λ I J h. (
  λ (K, k, large).
      let same = trans_of K I J (sym_of I K k.same) h.same in
      rw (← canon_one c.args.form K J k.canonical h.canonical same) large,
  λ large. (J, h, large),
)
