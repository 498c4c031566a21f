use Rattle.std.proofs.Common.{◌-◌, length, refl}
use Rattle.std.specs.Map.{keys_of}
use Rattle.std.proofs.lemmas.List.Sorted.{IsPermutation-put_mid}
use Rattle.pair_index.proofs.RunLaws.{apart_group, closed, group_unless_sorted}
use Rattle.pair_index.proofs.runs.Runs.close.Goals as goal

pub sort_by_pair-requires : goal.sort_by_pair-requires
sort_by_pair-requires g c = apart_group c.args.self.now.begin c.args.entries.now c.requires.apart

pub returns-in_default : goal.returns-in_default
returns-in_default g c =
    let runs = c.args.self.now in
    let es = c.args.entries.now in
    record {
      sorted =
          closed runs.begin es c.sort_by_pair.new.entries
          (group_unless_sorted (keys_of es) runs.begin runs.group c.in_default.not-Sorted c.requires.shows)
          c.sort_by_pair.ensures.moved c.sort_by_pair.ensures.sorted;
      group = refl;
      moved =
          IsPermutation-put_mid runs.begin (length es - runs.begin) es c.sort_by_pair.new.entries
          c.sort_by_pair.ensures.moved;
    }
