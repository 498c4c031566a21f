use Rattle.std.proofs.Common.{◌+◌, length, Option}
use Rattle.dn_compare.specs.State.Partings.{IsParting}
use Rattle.std.specs.List.Sorted.{IsStrictlySortedBy}
use Rattle.std.specs.Map.{keys_of}
use Rattle.dn_compare.proofs.parting.first_parting.Given as goal

-- the first difference of the remaining entries is the first difference of all entries
abbrev pub invariant-loop-key : goal.invariant-loop-key
invariant-loop-key g l = record {
  lefts : IsStrictlySortedBy g.S.Key.Ord.cmp (keys_of l.lefts);
  rights : IsStrictlySortedBy g.S.Key.Ord.cmp (keys_of l.rights);
  rest : (o : Option (_ × _)) → IsParting g.S.Key.Ord.cmp g.S.Side.by l.lefts l.rights o
      → IsParting g.S.Key.Ord.cmp g.S.Side.by (g.S.Side.entries l.fn.left) (g.S.Side.entries l.fn.right) o;
}

abbrev pub decreases-loop-key : goal.decreases-loop-key
decreases-loop-key g l = length l.lefts + length l.rights
