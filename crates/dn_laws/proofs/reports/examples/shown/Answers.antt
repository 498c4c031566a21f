use Rattle.std.proofs.Common.{◌≡◌, inl, inr, ℤ, pos, List, [], ◌∷◌, codes, Some, refl, rules}
use Rattle.std.specs.Fmt.{digits, signed_decimal}
use Rattle.std.specs.List.Sorted.{IsStrictlySortedBy}
use Rattle.dn_arc_theory.specs.declared.arc.CapArc.{CapArc}
use Rattle.dn_arc_theory.specs.declared.arc.CostArc.{CostArc}
use Rattle.dn_arc_theory.specs.declared.arc.LengthArc.{LengthArc}
use Rattle.dn_arc_theory.specs.Kinds.{lengths, capacities, costs}
use Rattle.dn_arc_theory.specs.Pairs.{bundle}
use Rattle.dn_arc_theory.proofs.CostKindLaws.{cost_kind}
use Rattle.dn_arc_theory.proofs.LengthKindLaws.{length_kind}
use Rattle.dn_arc_theory.proofs.TotalKindLaws.{total_kind}
use Rattle.dn_laws.proofs.reports.ExampleLaws.{IsListed, ListedAt, pair_rows, some_words}
use Rattle.dn_laws.specs.State.DifferenceExamples.{some_costs, some_lengths, worked_capacities}
use Rattle.dn_sink.specs.Rows.{Cells}
use Rattle.dn_report.specs.Shows.{AreLengthWords, total_words, cost_words}
use Rattle.dn_laws.proofs.reports.examples.shown.Goals as goal

length_words : {row : Cells} {xs : List LengthArc} → AreLengthWords xs row
    → IsListed lengths AreLengthWords (Some row) xs
length_words w = some_words lengths AreLengthWords (λ same. (same.there w.0 w.1).has) w

abbrev AreTotal : List CapArc → Cells → Type 0
AreTotal arcs words = words ≡ total_words arcs

abbrev AreCosts : List CostArc → Cells → Type 0
AreCosts arcs words = words ≡ cost_words arcs

pub returns : goal.returns
unfolding digits IsStrictlySortedBy
returns c =
    let lengths_are : List ((ℤ × ℤ) × Cells) = ((pos 1, pos 2), codes "length" ∷ signed_decimal (pos 3) ∷ []) ∷
    ((pos 2, pos 1), codes "length" ∷ signed_decimal (pos 4) ∷ []) ∷ [] in
    let three : ListedAt lengths AreLengthWords length_kind some_lengths lengths_are (pos 1, pos 2) =
    length_words (pos 3, record { has = inr (inl refl); least = search rules }, refl) in
    let four : ListedAt lengths AreLengthWords length_kind some_lengths lengths_are (pos 2, pos 1) =
    length_words (pos 4, record { has = inl refl; least = search rules }, refl) in
    let totals_are : List ((ℤ × ℤ) × Cells) = ((pos 1, pos 2), codes "total" ∷ signed_decimal (pos 9) ∷ []) ∷
    ((pos 1, pos 3), codes "total" ∷ signed_decimal (pos 2) ∷ []) ∷ [] in
    let nine : ListedAt capacities AreTotal total_kind worked_capacities totals_are (pos 1, pos 2) =
    some_words capacities AreTotal (λ same. cc (same.is)) refl in
    let two : ListedAt capacities AreTotal total_kind worked_capacities totals_are (pos 1, pos 3) =
    some_words capacities AreTotal (λ same. cc (same.is)) refl in
    let costs_are : List ((ℤ × ℤ) × Cells) = ((pos 1, pos 2), cost_words (bundle (pos 1, pos 2) some_costs)) ∷ [] in
    let forced : ListedAt costs AreCosts cost_kind some_costs costs_are (pos 1, pos 2) =
    some_words costs AreCosts (λ same.
    let none : pos 7 ≡ pos 0 =
    cost_kind.same_capacity (bundle (pos 1, pos 2) some_costs) [] (search rules) tt same in
    cc) refl in
    record {
      lengths = (
        _,
        record {
          pairs = _;
          are_pairs =
              pair_rows lengths AreLengthWords length_kind some_lengths lengths_are ((refl, tt), (tt, tt))
              (four, (three, (three, tt))) (λ p h. (h.1.0, (h.0, tt)));
          rows_are = refl;
        },
        refl,
      );
      capacities = (
        _,
        record {
          pairs = _;
          are_pairs =
              pair_rows capacities AreTotal total_kind worked_capacities totals_are ((refl, tt), (tt, tt))
              (record { meant = (λ h. record { is = refl }, λ h. refl); words = tt }, (nine, (two, (nine, tt))))
              (λ p h. (h.1.0, (h.1.1.0, tt)));
          rows_are = refl;
        },
        refl,
      );
      costs = (
        _,
        record {
          pairs = _;
          are_pairs =
              pair_rows costs AreCosts cost_kind some_costs costs_are (tt, tt) (forced, (forced, (forced, tt)))
              (λ p h. (h.0, tt));
          rows_are = refl;
        },
        refl,
      );
      sources = (_, refl, refl);
      queries = (_, refl, refl);
      points = (_, refl, refl);
    }
