use Rattle.dn_laws.proofs.texts.ChunkLaws.{whole_of, whole_same, whole_valid, whole_bytes}
use Rattle.dn_laws.proofs.texts.laws.in_chunks.Goals as goal

pub returns : goal.returns
returns c = record {
  whole = whole_of c.args.from;
  same = whole_same c.args.from;
  valid = whole_valid c.args.from;
  bytes = whole_bytes c.args.from c.args.to;
}
