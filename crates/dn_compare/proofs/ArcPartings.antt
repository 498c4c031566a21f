-- Where the arcs of two tables first differ.
use Rattle.std.proofs.Common.{ℤ, List, Option, Some, None}
use Rattle.std.specs.Ordering.{int_cmp}
use Rattle.std.proofs.lemmas.Map.Lookups.{CmpEqualImpliesEq, exact_pairs, exact_signed}
use Rattle.dn_arc_theory.specs.State.Bundles.{ArcDiffer, AreDifferences, IsKind}
use Rattle.dn_arc_theory.specs.Kinds.{ArcKind}
use Rattle.dn_arc_theory.specs.declared.difference.How.{How}
use Rattle.dn_arc_theory.specs.Pairs.{bundle, pair_cmp}
use Rattle.dn_table.specs.State.Tables.{listed_at, TableLists}
use Rattle.dn_compare.specs.State.Partings.{by_meaning, IsParting, IsArcsParting}

pub exact_pair : CmpEqualImpliesEq pair_cmp
exact_pair = exact_pairs int_cmp int_cmp exact_signed exact_signed

-- where the listed arcs of two tables first differ, the arcs that they represent do
pub of_arcs : {B Arc : Type 0} {kind : ArcKind Arc} {Differ : ArcDiffer Arc} (laws : IsKind kind)
    (differs : AreDifferences kind Differ) (lists : B → List Arc)
    (left right : List ((ℤ × ℤ) × B)) (xs ys : List ((ℤ × ℤ) × Arc)) (o : Option ((ℤ × ℤ) × How))
    → TableLists kind lists left xs → TableLists kind lists right ys
    → IsParting pair_cmp (by_meaning kind Differ lists) left right o → IsArcsParting kind Differ xs ys o
of_arcs {kind = kind} {Differ = Differ} laws differs lists left right xs ys o f g h = by_answer o h
  where
    same : (q : ℤ × ℤ) → kind.Same (listed_at lists left q) (listed_at lists right q)
        → kind.Same (bundle q xs) (bundle q ys)
    same q s =
        laws.meaning.same_trans _ _ _ (laws.meaning.same_sym _ _ (f.stands q).same)
        (laws.meaning.same_trans _ _ _ s (g.stands q).same)

    by_answer : (o : Option ((ℤ × ℤ) × How)) → IsParting pair_cmp (by_meaning kind Differ lists) left right o
        → IsArcsParting kind Differ xs ys o
    by_answer None h = λ q. same q (h q)
    by_answer (Some x) h = record {
      differ = differs.same_differ _ _ _ _ x.1 (f.stands x.0).same (g.stands x.0).same h.differ;
      same_before = λ q l. same q (h.same_before q l);
    }
