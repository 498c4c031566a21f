-- Lemmas on which verdict comes first, given what is the same before it.
use Rattle.std.proofs.Common.{◌≡◌, ◌≢◌, ℕ, ℤ, pos, refl, sym, ◌∙◌}
use Rattle.std.specs.Ordering.{int_cmp, ordering_then}
use Rattle.std.specs.declared.cmp.Ordering.{Ordering}
use Rattle.std.specs.declared.cmp.Ordering.TheVariants.{Less, Equal}
use Rattle.dn_arc_theory.specs.declared.difference.How.{How}
use Rattle.dn_instance.specs.Instances.{Instance, kind_of, nodes_of}
use Rattle.dn_arc_theory.specs.Pairs.{pair_cmp}
use Rattle.dn_compare.specs.Observed.{flow_of, source_of, sink_of, count_of, point_of}
use Rattle.dn_compare.specs.FirstDifference.{Differ, BundlesDiffer, ItemsDiffer, IsTrueOf, StandsEarlier, IsFirstDifference}
use Rattle.dn_instance.specs.declared.verdict.Verdict.{Verdict}
use Rattle.dn_instance.specs.declared.verdict.Verdict.TheVariants as Verdicts
use Rattle.dn_compare.proofs.TruthLaws.{seen, no_bundles, no_items}

equal : {A : Type 0} {x y l r : A} → Differ x y l r → x ≡ y → ⊥
equal d e = d.2 (sym d.0 ∙ e ∙ d.1)

first_of_two : (o : Ordering) → ordering_then o Equal ≡ Less → o ≡ Less
first_of_two Less e = refl
first_of_two _ e = cc

module _ (I J : Instance) where
  abbrev IsFirst : Verdict → Type 0
  IsFirst v = (w : Verdict) → StandsEarlier w v → IsTrueOf I J w → ⊥

  pub kind_first : kind_of I ≢ kind_of J → IsFirstDifference I J (Verdicts.Kind (kind_of I) (kind_of J))
  kind_first n = record { true_of = (refl, refl, n); none_earlier = earlier }
    where
      earlier : IsFirst (Verdicts.Kind (kind_of I) (kind_of J))
      earlier Verdicts.Same lt t = n (seen I J t).kind
      earlier _ lt t = cc

  module _ (kind : kind_of I ≡ kind_of J) where
    pub nodes_first : nodes_of I ≢ nodes_of J → IsFirstDifference I J (Verdicts.Nodes (nodes_of I) (nodes_of J))
    nodes_first n = record { true_of = (refl, refl, n); none_earlier = earlier }
      where
        earlier : IsFirst (Verdicts.Nodes (nodes_of I) (nodes_of J))
        earlier Verdicts.Same lt t = n (seen I J t).nodes
        earlier w lt t = first_of (cc, search equal)

    module _ (nodes : nodes_of I ≡ nodes_of J) where
      pub supply_first : (id l r : ℤ) → IsTrueOf I J (Verdicts.Supply id l r)
          → ((q : ℤ) → int_cmp q id ≡ Less → flow_of I q ≡ flow_of J q) → IsFirstDifference I J (Verdicts.Supply id l r)
      supply_first id l r d before = record { true_of = d; none_earlier = earlier }
        where
          earlier : IsFirst (Verdicts.Supply id l r)
          earlier Verdicts.Same lt t = equal d ((seen I J t).flow id)
          earlier (Verdicts.Supply q a b) lt t = equal t (before q (first_of_two (int_cmp q id) lt))
          earlier w lt t = first_of (cc, search equal)

      module _ (flow : (id : ℤ) → flow_of I id ≡ flow_of J id) where
        pub source_first : (l r : ℤ) → IsTrueOf I J (Verdicts.Source l r) → IsFirstDifference I J (Verdicts.Source l r)
        source_first l r d = record { true_of = d; none_earlier = earlier }
          where
            earlier : IsFirst (Verdicts.Source l r)
            earlier Verdicts.Same lt t = equal d (seen I J t).source
            earlier w lt t = first_of (cc, search equal)

        module _ (source : source_of I ≡ source_of J) where
          pub sink_first : (l r : ℤ) → IsTrueOf I J (Verdicts.Sink l r) → IsFirstDifference I J (Verdicts.Sink l r)
          sink_first l r d = record { true_of = d; none_earlier = earlier }
            where
              earlier : IsFirst (Verdicts.Sink l r)
              earlier Verdicts.Same lt t = equal d (seen I J t).sink
              earlier w lt t = first_of (cc, search equal)

          module _ (sink : sink_of I ≡ sink_of J) where
            pub pair_first : (src dst : ℤ) (how : How) → BundlesDiffer I J (src, dst) how
                → ((q : ℤ × ℤ) (other : How) → pair_cmp q (src, dst) ≡ Less → BundlesDiffer I J q other → ⊥)
                → IsFirstDifference I J (Verdicts.Pair src dst how)
            pair_first src dst how d before = record { true_of = d; none_earlier = earlier }
              where
                earlier : IsFirst (Verdicts.Pair src dst how)
                earlier Verdicts.Same lt t = no_bundles I J (src, dst) how t d
                earlier (Verdicts.Pair u v other) lt t = before (u, v) other lt t
                earlier w lt t = first_of (cc, search equal)

            module _ (bundles : (p : ℤ × ℤ) (how : How) → BundlesDiffer I J p how → ⊥) where
              pub length_first : (l r : ℕ) → IsTrueOf I J (Verdicts.Length l r)
                  → IsFirstDifference I J (Verdicts.Length l r)
              length_first l r d = record { true_of = d; none_earlier = earlier }
                where
                  earlier : IsFirst (Verdicts.Length l r)
                  earlier Verdicts.Same lt t = equal d (seen I J t).count
                  earlier w lt t = first_of (cc, search equal)

              module _ (count : count_of I ≡ count_of J) where
                pub item_first : (i : ℕ) → ItemsDiffer I J i
                    → ((j : ℕ) → int_cmp (pos j) (pos i) ≡ Less → ItemsDiffer I J j → ⊥)
                    → IsFirstDifference I J (Verdicts.Item i)
                item_first i d before = record { true_of = d; none_earlier = earlier }
                  where
                    earlier : IsFirst (Verdicts.Item i)
                    earlier Verdicts.Same lt t = no_items I J i t d
                    earlier (Verdicts.Item j) lt t = before j (first_of_two (int_cmp (pos j) (pos i)) lt) t
                    earlier w lt t = first_of (cc, search equal)

                pub point_first : (id : ℤ) → IsTrueOf I J (Verdicts.Point id)
                    → ((q : ℤ) → int_cmp q id ≡ Less → point_of I q ≡ point_of J q) → ((j : ℕ) → ItemsDiffer I J j → ⊥)
                    → IsFirstDifference I J (Verdicts.Point id)
                point_first id d before items = record { true_of = d; none_earlier = earlier }
                  where
                    earlier : IsFirst (Verdicts.Point id)
                    earlier Verdicts.Same lt t = d ((seen I J t).point id)
                    earlier (Verdicts.Point q) lt t = t (before q (first_of_two (int_cmp q id) lt))
                    earlier w lt t = first_of (cc, search equal)
