use Rattle.std.proofs.Common.{◌≡◌, ◌≤◌, ◌+◌, ◌*◌, ◌++◌, map, take}
use Rattle.std.specs.Fmt.{signed_decimal}
use Rattle.dn_sink.specs.State.Spaced.{spaced}
use Rattle.dn_canon.proofs.block.put_parts.Given as goal

abbrev pub invariant-loop-i : goal.invariant-loop-i
invariant-loop-i g l = record {
  text : take l.end l.bytes ≡ take l.at l.fn.bytes ++ spaced (map signed_decimal (take l.i (g.P.Parts.numbers l.arc)));
  within : l.end ≤ l.at + 21 * l.i;
}
