use Rattle.std.specs.Map.{keys_of}
use Rattle.pair_index.proofs.tails.Tails.take.Goals as goal

pub returns-then-is_long-clause-not : goal.returns-then-is_long-clause-not
returns-then-is_long-clause-not g c _ = c.requires.linked

pub returns-in_err-make_room-clause-not : goal.returns-in_err-make_room-clause-not
returns-in_err-make_room-clause-not g c _ = c.make_room.ensures.kept (keys_of c.args.entries.now) c.requires.linked

pub returns-then-not-branch-clause-not : goal.returns-then-not-branch-clause-not
returns-then-not-branch-clause-not g c _ = c.make_room.ensures.kept (keys_of c.args.entries.now) c.requires.linked

pub link-requires-clause-linked : goal.link-requires-clause-linked
link-requires-clause-linked g c = c.make_room.ensures.kept (keys_of c.args.entries.now) c.requires.linked

pub link-requires-clause-fresh : goal.link-requires-clause-fresh
link-requires-clause-fresh g c = c.requires.fresh

pub returns-clause-taken : goal.returns-clause-taken
returns-clause-taken g c _ = c.link.ensures
