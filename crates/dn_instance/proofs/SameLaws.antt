-- Lemmas that posing the same problem is an equivalence that ignores the order of arcs, and that a parsed instance
-- represents one problem.
use Rattle.std.proofs.Common.{◌≡◌, ℤ, List, ◌∷◌, Bool, true, false, cond, refl, sym, ◌∙◌}
use Rattle.std.specs.List.Sorted.{IsPermutation}
use Rattle.dn_arc_theory.specs.State.Equivalences.{IsMeaning}
use Rattle.dn_arc_theory.specs.Kinds.{ArcKind, lengths, capacities, costs}
use Rattle.dn_arc_theory.proofs.OrdersLaws.{any_order}
use Rattle.dn_arc_theory.proofs.LengthsLaws.{length_meaning}
use Rattle.dn_arc_theory.proofs.TotalsLaws.{total_meaning}
use Rattle.dn_arc_theory.proofs.CurvesLaws.{curve_meaning}
use Rattle.dn_arc_theory.specs.Pairs.{bundle, same_pair}
use Rattle.dn_arc_theory.specs.State.SingleArcs.{length_listed, cap_listed}
use Rattle.dn_arc_theory.specs.State.CurveListed.{listed}
use Rattle.dn_arc_theory.specs.declared.arc.Form.TheVariants.{One}
use Rattle.dn_arc_theory.specs.State.Curves.{CurveNumbers}
use Rattle.dn_bundle.specs.declared.least.Least.{Least}
use Rattle.dn_bundle.specs.declared.total.Total.{Total}
use Rattle.dn_instance.specs.State.Helds.{Contents, Parsed, IsHeld, Shows, OfMin, OfMax, OfSp, OfSs, OfP2p, OfCo}
use Rattle.dn_instance.specs.Instances.{Graph, Instance, MinCostFlow, MaxFlow, ShortestPaths, Sources, Queries, Coordinates, nodes_of}
use Rattle.dn_table.specs.State.Tables.{listed_at, TableStandsFor}
use Rattle.dn_instance.specs.Sameness.{SameGraph, IsSame}

module _ {Arc : Type 0} (kind : ArcKind Arc) (meaning : IsMeaning kind.Same) where
  pub graph_refl : (G : Graph Arc) → SameGraph kind.Same G G
  graph_refl G = record { nodes = refl; bundles = λ p. meaning.same_refl (bundle p G.arcs) }

  pub graph_sym : (G H : Graph Arc) → SameGraph kind.Same G H → SameGraph kind.Same H G
  graph_sym G H s =
      record { nodes = sym s.nodes; bundles = λ p. meaning.same_sym (bundle p G.arcs) (bundle p H.arcs) (s.bundles p) }

  pub graph_trans : (G H K : Graph Arc) → SameGraph kind.Same G H → SameGraph kind.Same H K → SameGraph kind.Same G K
  graph_trans G H K s t = record {
    nodes = s.nodes ∙ t.nodes;
    bundles = λ p. meaning.same_trans (bundle p G.arcs) (bundle p H.arcs) (bundle p K.arcs) (s.bundles p) (t.bundles p);
  }

  -- two lists of arcs mean the same at each pair
  pub record SameAt (xs ys : List ((ℤ × ℤ) × Arc)) : Type 0 where
    pub at : (p : ℤ × ℤ) → kind.Same (bundle p xs) (bundle p ys)

  more_at : (t : Bool) (a : Arc) (xs ys : List Arc) → kind.Same xs ys
      → kind.Same (cond t (a ∷ xs) xs) (cond t (a ∷ ys) ys)
  more_at true a xs ys s = meaning.same_more a xs ys s
  more_at false a xs ys s = s

  swap_at : (s t : Bool) (a b : Arc) (xs : List Arc) → kind.Same (cond s (a ∷ cond t (b ∷ xs) xs) (cond t (b ∷ xs) xs))
      (cond t (b ∷ cond s (a ∷ xs) xs) (cond s (a ∷ xs) xs))
  swap_at true true a b xs = meaning.same_swap a b xs
  swap_at true false a b xs = meaning.same_refl (a ∷ xs)
  swap_at false true a b xs = meaning.same_refl (b ∷ xs)
  swap_at false false a b xs = meaning.same_refl xs

  pub placed_meaning : IsMeaning SameAt
  placed_meaning = record {
    same_refl = λ xs. record { at = λ p. meaning.same_refl (bundle p xs) };
    same_sym = λ xs ys s. record { at = λ p. meaning.same_sym (bundle p xs) (bundle p ys) (s.at p) };
    same_trans =
        λ xs ys zs s t. record
        { at = λ p. meaning.same_trans (bundle p xs) (bundle p ys) (bundle p zs) (s.at p) (t.at p) };
    same_more = λ a xs ys s. record { at = λ p. more_at (same_pair p a.0) a.1 (bundle p xs) (bundle p ys) (s.at p) };
    same_swap = λ a b xs. record { at = λ p. swap_at (same_pair p a.0) (same_pair p b.0) a.1 b.1 (bundle p xs) };
  }

  pub graph_order : (nodes : ℤ) (xs ys : List ((ℤ × ℤ) × Arc)) → IsPermutation xs ys
      → SameGraph kind.Same (record { nodes = nodes; arcs = xs }) (record { nodes = nodes; arcs = ys })
  graph_order nodes xs ys h = let s = any_order SameAt placed_meaning xs ys h in record { nodes = refl; bundles = s.at }

  -- graphs with the same NODES that one table represents mean the same
  table_one : {B : Type 0} (lists : B → List Arc) (table : List ((ℤ × ℤ) × B)) (G H : Graph Arc) → G.nodes ≡ H.nodes
      → TableStandsFor kind lists table G.arcs → TableStandsFor kind lists table H.arcs → SameGraph kind.Same G H
  table_one lists table G H n s t = record { nodes = n; bundles = at }
    where
      at : (p : ℤ × ℤ) → kind.Same (bundle p G.arcs) (bundle p H.arcs)
      at p =
          let listed = listed_at lists table p in
          meaning.same_trans (bundle p G.arcs) listed (bundle p H.arcs)
          (meaning.same_sym listed (bundle p G.arcs) (s.lists_them.stands p).same) (t.lists_them.stands p).same

pub refl_of : (I : Instance) → IsSame I I
refl_of (MinCostFlow s G) = (refl, graph_refl costs curve_meaning G)
refl_of (MaxFlow a b G) = (refl, refl, graph_refl capacities total_meaning G)
refl_of (ShortestPaths G) = graph_refl lengths length_meaning G
refl_of _ = refl

pub sym_of : (I J : Instance) → IsSame I J → IsSame J I
sym_of (MinCostFlow s G) (MinCostFlow t H) e = (sym e.0, graph_sym costs curve_meaning G H e.1)
sym_of (MaxFlow a b G) (MaxFlow c d H) e = (sym e.0, sym e.1, graph_sym capacities total_meaning G H e.2)
sym_of (ShortestPaths G) (ShortestPaths H) e = graph_sym lengths length_meaning G H e
sym_of (Sources xs) (Sources ys) e = sym e
sym_of (Queries xs) (Queries ys) e = sym e
sym_of (Coordinates xs) (Coordinates ys) e = sym e
sym_of _ _ e = absurd e

pub trans_of : (I J K : Instance) → IsSame I J → IsSame J K → IsSame I K
trans_of (MinCostFlow s G) (MinCostFlow t H) (MinCostFlow u K) e f =
    (e.0 ∙ f.0, graph_trans costs curve_meaning G H K e.1 f.1)
trans_of (MaxFlow a b G) (MaxFlow c d H) (MaxFlow g h K) e f =
    (e.0 ∙ f.0, e.1 ∙ f.1, graph_trans capacities total_meaning G H K e.2 f.2)
trans_of (ShortestPaths G) (ShortestPaths H) (ShortestPaths K) e f = graph_trans lengths length_meaning G H K e f
trans_of (Sources xs) (Sources ys) (Sources zs) e f = e ∙ f
trans_of (Queries xs) (Queries ys) (Queries zs) e f = e ∙ f
trans_of (Coordinates xs) (Coordinates ys) (Coordinates zs) e f = e ∙ f
trans_of _ _ _ e f = absurd assumption

shows_one : (c : Contents) (I J : Instance) → nodes_of I ≡ nodes_of J → Shows c I → Shows c J → IsSame I J
shows_one (OfMin flows table) (MinCostFlow s G) (MinCostFlow t H) n x y = (
  sym x.0 ∙ y.0,
  table_one costs curve_meaning (λ (b : CurveNumbers). listed One b.units b.cost b.steps) table G H n x.1 y.1,
)
shows_one (OfMax source sink table) (MaxFlow a b G) (MaxFlow c d H) n x y = (
  sym x.0 ∙ y.0,
  sym x.1 ∙ y.1,
  table_one capacities total_meaning (λ (b : Total). cap_listed b.total) table G H n x.2 y.2,
)
shows_one (OfSp table) (ShortestPaths G) (ShortestPaths H) n x y =
    table_one lengths length_meaning (λ (b : Least). length_listed b.length) table G H n x y
shows_one (OfSs ids) (Sources xs) (Sources ys) n x y = sym x ∙ y
shows_one (OfP2p pairs) (Queries xs) (Queries ys) n x y = sym x ∙ y
shows_one (OfCo points) (Coordinates xs) (Coordinates ys) n x y = sym x ∙ y
shows_one _ _ _ n x y = absurd assumption

-- the instances that a parsed instance represents pose the same problem
pub held_one : (h : Parsed) (I J : Instance) → IsHeld h I → IsHeld h J → IsSame I J
held_one h I J x y = shows_one h.contents I J (sym x.nodes_are ∙ y.nodes_are) x.shows y.shows
