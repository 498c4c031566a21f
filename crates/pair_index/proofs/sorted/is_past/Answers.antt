use Rattle.std.proofs.Common.{sym, refl, ◌∙◌}
use Rattle.std.specs.Map.{keys_of}
use Rattle.pair_index.proofs.SortedLaws.{none_past, sorted_more, last_below, sorted_first, last_from_sorted}
use Rattle.pair_index.proofs.sorted.is_past.Goals as goal

pub returns-in-Less : goal.returns-in-Less
returns-in-Less g c =
    let below =
    last_below c.args.entries.now c.in-Some.field-0.now c.args.pair.now c.in-Some.ensures.value
    (sym c.in-Less.ensures) in
    record {
      none = λ e. none_past (keys_of c.args.entries.now) c.args.pair.now c.requires below;
      sorted =
          (λ e. sorted_more (keys_of c.args.entries.now) c.args.pair.now c.requires below, λ up. refl);
    }

pub returns-in_default-clause-sorted : goal.returns-in_default-clause-sorted
returns-in_default-clause-sorted g c = (
  λ e. sorted_first c.args.entries.now c.args.pair.now c.in_default.ensures.value c.requires,
  λ up. refl,
)

pub returns-in_default-cmp : goal.returns-in_default-cmp
returns-in_default-cmp g c = record {
  none = λ e. cc;
  sorted = (
    λ e. cc,
    λ up. absurd
        (c.in_default-cmp.not-Less
        (c.cmp.ensures
        ∙ last_from_sorted c.args.entries.now c.in-Some.field-0.now c.args.pair.now
        c.in-Some.ensures.value up)),
  );
}
