use Rattle.std.proofs.Common.{w8}
use Rattle.std.proofs.lemmas.Simd.{chunk-fits, below_from_Fits}
use Rattle.std.specs.Simd.Lanes.{chunk}
use Rattle.dn_num.proofs.ShortLaws.{first_lanes}
use Rattle.dn_num.proofs.short.word_of.Goals as goal

pub returns : goal.returns
returns c =
    let bs = chunk c.args.at 8 c.args.bytes.now in
    first_lanes c.word_at.result c.args.n bs c.requires.most
    (below_from_Fits w8 bs (chunk-fits w8 c.args.at 8 c.args.bytes.now c.type_inv.bytes)) c.word_at.ensures
