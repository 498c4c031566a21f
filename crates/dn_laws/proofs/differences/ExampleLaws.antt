-- For the worked first differences, it suffices to compare at the keys of both lists.
use Rattle.std.proofs.Common.{◌≡◌, ℤ, pos, List, [], ◌++◌, None, refl}
use Rattle.std.specs.List.{AllByRecursion}
use Rattle.std.specs.Map.{keys_of}
use Rattle.std.specs.Ordering.{int_cmp}
use Rattle.std.specs.declared.cmp.Ordering.TheVariants.{Less}
use Rattle.std.proofs.lemmas.Cmp.{int_cmp_total}
use Rattle.std.proofs.lemmas.Map.Lookups.{exact_signed}
use Rattle.dn_arc_theory.specs.State.Bundles.{ArcDiffer, IsKind}
use Rattle.dn_arc_theory.specs.Differences.{CurvesDiffer, LengthsDiffer}
use Rattle.dn_arc_theory.specs.Kinds.{ArcKind}
use Rattle.dn_arc_theory.specs.Kinds as Arcs
use Rattle.dn_arc_theory.specs.Pairs.{bundle, pair_cmp}
use Rattle.dn_arc_theory.specs.declared.arc.LengthArc.{LengthArc}
use Rattle.dn_arc_theory.specs.declared.arc.CostArc.{CostArc}
use Rattle.dn_arc_theory.specs.declared.difference.How.{How}
use Rattle.dn_arc_theory.proofs.CostKindLaws.{cost_kind}
use Rattle.dn_arc_theory.proofs.LengthKindLaws.{length_kind}
use Rattle.dn_arc_theory.proofs.PairLaws.{pair_total}
use Rattle.dn_instance.specs.declared.verdict.Verdict.TheVariants.{Pair}
use Rattle.dn_compare.specs.Observed.{value_of}
use Rattle.dn_compare.specs.FirstDifference.{IsFirstDifference}
use Rattle.dn_compare.specs.State.Partings.{Comparison, AlikeAt, PartAt, ArcsPartAt}
use Rattle.dn_compare.proofs.ArcPartings.{exact_pair}
use Rattle.dn_compare.proofs.HeldVerdicts.{min_pairs, sp_pairs}
use Rattle.dn_laws.specs.State.DifferenceExamples.{with_lengths, with_costs}
use Rattle.dn_laws.proofs.differences.SomeVerdict.{alike_outside, everywhere, same_outside}

pub map_part : {V W : Type 0} {by : Comparison V W} {es fs : List (ℤ × V)} {id : ℤ} {what : W} → by.Alike None None
    → by.Differ (value_of es id) (value_of fs id) what
    → AllByRecursion (λ k. int_cmp k id ≡ Less → AlikeAt int_cmp by es fs k) (keys_of es ++ keys_of fs)
    → PartAt int_cmp by es fs id what
map_part {V} {W} {by} {es} {fs} {id} {what} nothing d all = record {
  differ = d;
  same_before =
      λ q. everywhere int_cmp int_cmp_total exact_signed (λ k. int_cmp k id ≡ Less → AlikeAt int_cmp by es fs k) q
      (keys_of es ++ keys_of fs) all (λ h lt. alike_outside es fs by.Alike nothing q h);
}

pub arcs_part : {Arc : Type 0} (kind : ArcKind Arc) (Differ : ArcDiffer Arc) (laws : IsKind kind)
    {xs ys : List ((ℤ × ℤ) × Arc)} {pair : ℤ × ℤ} {how : How} → Differ (bundle pair xs) (bundle pair ys) how
    → AllByRecursion (λ k. pair_cmp k pair ≡ Less → kind.Same (bundle k xs) (bundle k ys)) (keys_of xs ++ keys_of ys)
    → ArcsPartAt kind Differ xs ys pair how
arcs_part kind Differ laws {xs} {ys} {pair} {how} d all = record {
  differ = d;
  same_before =
      λ q. everywhere pair_cmp pair_total exact_pair
      (λ k. pair_cmp k pair ≡ Less → kind.Same (bundle k xs) (bundle k ys)) q (keys_of xs ++ keys_of ys) all
      (λ h lt. same_outside kind laws xs ys q h);
}

-- the lists of `sp` and `min` graphs
pub lengths_part : {xs ys : List ((ℤ × ℤ) × LengthArc)} {src dst : ℤ} {how : How}
    → LengthsDiffer (bundle (src, dst) xs) (bundle (src, dst) ys) how
    → AllByRecursion (λ k. pair_cmp k (src, dst) ≡ Less → Arcs.lengths.Same (bundle k xs) (bundle k ys))
    (keys_of xs ++ keys_of ys)
    → IsFirstDifference (with_lengths xs) (with_lengths ys) (Pair src dst how)
lengths_part d all = sp_pairs _ _ _ refl (arcs_part Arcs.lengths LengthsDiffer length_kind d all)

pub costs_part : {xs ys : List ((ℤ × ℤ) × CostArc)} {how : How}
    → CurvesDiffer (bundle (pos 1, pos 2) xs) (bundle (pos 1, pos 2) ys) how
    → AllByRecursion (λ k. pair_cmp k (pos 1, pos 2) ≡ Less → Arcs.costs.Same (bundle k xs) (bundle k ys))
    (keys_of xs ++ keys_of ys)
    → IsFirstDifference (with_costs xs) (with_costs ys) (Pair (pos 1) (pos 2) how)
costs_part d all = min_pairs [] [] _ _ _ refl refl (arcs_part Arcs.costs CurvesDiffer cost_kind d all)
