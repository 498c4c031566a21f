use Rattle.std.proofs.Common.{◌≡◌, ◌≤◌, ◌+◌, ◌*◌, ◌++◌, map, take}
use Rattle.std.specs.Fmt.{signed_decimal}
use Rattle.dn_sink.specs.State.Spaced.{spaced}
use Rattle.dn_canon.proofs.block.put_numbers.Given as goal

abbrev pub invariant-loop-number : goal.invariant-loop-number
invariant-loop-number l = record {
  text : take l.end l.bytes ≡ take l.at l.fn.bytes ++ spaced (map signed_decimal (take l.number-index l.numbers));
  within : l.end ≤ l.at + 21 * l.number-index;
}
