use Rattle.dn_laws.proofs.texts.ChunkLaws.{whole_size, canons_heads}
use Rattle.dn_laws.proofs.texts.RangeLaws.{ranges_canon}
use Rattle.dn_laws.proofs.texts.RangeTexts.{ranges_text, each_parted}
use Rattle.dn_laws.proofs.texts.laws.in_ranges.Goals as goal

pub returns : goal.returns
returns c = record {
  canon = ranges_canon c.args.form;
  text = ranges_text c.args.form;
  parts = λ I p. each_parted I p.canons (canons_heads c.args.form I p.canons p.parts p.canons_are p.parts_are.heads);
  count = λ I J p q. whole_size J p.canons q;
}
