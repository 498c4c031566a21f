use Rattle.dn_line.proofs.PieceLaws.{pieces_joined, pieces_none, pieces_only}
use Rattle.dn_laws.proofs.lines.laws.pieces_join.Goals as goal

pub returns : goal.returns
returns c = record { joined = pieces_joined; without = pieces_none; only = pieces_only }
