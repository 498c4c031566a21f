use Rattle.std.proofs.Common.{rules}
use Rattle.dn_sink.proofs.room.Room.taken.Goals as goal

pub returns : goal.returns
returns c = search rules
