-- Lemmas that problems that are made of parts are the same if their parts are the same.
use Rattle.std.proofs.Common.{◌≡◌, ℤ, List, [], ◌∷◌, length, map, refl, sym, ap, ◌∙◌}
use Rattle.std.proofs.lemmas.List.{map-append}
use Rattle.std.specs.List.{AllByRecursion, flat_map}
use Rattle.dn_arc_theory.specs.State.Bundles.{IsKind}
use Rattle.dn_arc_theory.specs.Kinds.{ArcKind, lengths, capacities, costs}
use Rattle.dn_arc_theory.proofs.CostKindLaws.{cost_kind}
use Rattle.dn_arc_theory.proofs.LengthKindLaws.{length_kind}
use Rattle.dn_arc_theory.proofs.OrdersLaws.{same_joined}
use Rattle.dn_arc_theory.proofs.TotalKindLaws.{total_kind}
use Rattle.dn_instance.specs.Instances.{Graph, Instance, MinCostFlow, MaxFlow, ShortestPaths, size_of}
use Rattle.dn_instance.specs.State.Parts.{arc_lines, graph_lines, SameHead, AreParts, AreSame}
use Rattle.dn_instance.specs.Sameness.{SameGraph, IsSame}
use Rattle.dn_instance.specs.Validity.{IsValid, IsValidGraph}
use Rattle.dn_instance.proofs.SameLaws.{SameAt, placed_meaning}

-- an instance that is the same problem has the same head
pub head_then : (I P Q : Instance) → SameHead I P → IsSame P Q → SameHead I Q
head_then (MinCostFlow s G) (MinCostFlow t H) (MinCostFlow u K) h e = (h.0 ∙ e.0, h.1 ∙ e.1.nodes)
head_then (MaxFlow a b G) (MaxFlow c d H) (MaxFlow f g K) h e = (h.0 ∙ e.0, h.1 ∙ e.1, h.2 ∙ e.2.nodes)
head_then (ShortestPaths G) (ShortestPaths H) (ShortestPaths K) h e = h ∙ e.nodes
head_then (MinCostFlow s G) (MinCostFlow t H) _ h e = absurd e
head_then (MaxFlow a b G) (MaxFlow c d H) _ h e = absurd e
head_then (ShortestPaths G) (ShortestPaths H) _ h e = absurd e
head_then _ _ _ h e = absurd h

head_back : (I J Q : Instance) → SameHead I Q → SameHead J Q → SameHead I J
head_back (MinCostFlow s G) (MinCostFlow t H) (MinCostFlow u K) h e = (h.0 ∙ sym e.0, h.1 ∙ sym e.1)
head_back (MaxFlow a b G) (MaxFlow c d H) (MaxFlow f g K) h e = (h.0 ∙ sym e.0, h.1 ∙ sym e.1, h.2 ∙ sym e.2)
head_back (ShortestPaths G) (ShortestPaths H) (ShortestPaths K) h e = h ∙ sym e
head_back (MinCostFlow s G) _ (MinCostFlow u K) h e = absurd e
head_back (MaxFlow a b G) _ (MaxFlow f g K) h e = absurd e
head_back (ShortestPaths G) _ (ShortestPaths K) h e = absurd e
head_back _ _ _ h e = absurd h

-- an instance with the head of a graph problem is a graph problem
pub head_turned : (I P : Instance) → SameHead I P → SameHead P P
head_turned (MinCostFlow s G) (MinCostFlow t H) h = (refl, refl)
head_turned (MaxFlow a b G) (MaxFlow c d H) h = (refl, refl, refl)
head_turned (ShortestPaths G) (ShortestPaths H) h = refl
head_turned _ _ h = absurd h

-- an instance that is made of parts is a graph problem
pub own_head : (I : Instance) (parts : List Instance) → AreParts parts I → SameHead I I
own_head I [] p = absurd (p.some refl)
own_head I (P ∷ parts) p = head_back I I P p.heads.0 p.heads.0

-- instances that are made of the same parts have the same head
pub heads_agree : (I J : Instance) (parts others : List Instance) → AreParts parts I → AreParts others J
    → AreSame parts others → SameHead I J
heads_agree I J [] others p q s = absurd (p.some refl)
heads_agree I J (P ∷ parts) [] p q s = absurd s
heads_agree I J (P ∷ parts) (Q ∷ others) p q s = head_back I J Q (head_then I P Q p.heads.0 s.0) q.heads.0

-- a problem of this kind and head whose graph has this number of nodes
pub record IsMade {Arc : Type 0} (make : Graph Arc → Instance) (nodes : ℤ) (P : Instance) : Type 0 where
  pub graph : Graph Arc
  pub is : P ≡ make graph
  pub nodes_are : nodes ≡ graph.nodes

-- how the problems of a kind and head are made of their graphs
pub record IsMaking {Arc : Type 0} (kind : ArcKind Arc) (make : Graph Arc → Instance) : Type 0 where
  pub kind_laws : IsKind kind
  pub opens : (G : Graph Arc) (P : Instance) → SameHead (make G) P → IsMade make G.nodes P
  pub head_is : (G H : Graph Arc) → G.nodes ≡ H.nodes → SameHead (make G) (make H)
  pub lines_are : (G : Graph Arc) → arc_lines (make G) ≡ graph_lines kind G
  pub size_is : (G : Graph Arc) → size_of (make G) ≡ length G.arcs
  pub same_graph : (G H : Graph Arc) → IsSame (make G) (make H) → SameGraph kind.Same G H
  pub make_same : (G H : Graph Arc) → SameGraph kind.Same G H → IsSame (make G) (make H)
  pub valid_graph : (G : Graph Arc) → IsValid (make G) → IsValidGraph kind G
  pub make_valid : (G H : Graph Arc) → G.nodes ≡ H.nodes → IsValid (make G) → IsValidGraph kind H → IsValid (make H)

-- a problem with the head of a `min` problem is made of a graph
open_min : (s : List (ℤ × ℤ)) (G : Graph _) (P : Instance) → SameHead (MinCostFlow s G) P
    → IsMade (MinCostFlow s) G.nodes P
open_min s G (MinCostFlow t H) h = record { graph = H; is = rw (h.0); nodes_are = h.1 }
open_min s G _ h = absurd h

pub min_making : (s : List (ℤ × ℤ)) → IsMaking costs (MinCostFlow s)
min_making s = record {
  kind_laws = cost_kind;
  opens = open_min s;
  head_is = λ G H n. (refl, n);
  lines_are = λ G. refl;
  size_is = λ G. refl;
  same_graph = λ G H e. e.1;
  make_same = λ G H e. (refl, e);
  valid_graph = λ G v. v.0;
  make_valid = λ G H n v w. (w, rw n at (v.1));
}

-- a problem with the head of a `max` problem is made of a graph
open_max : (a b : ℤ) (G : Graph _) (P : Instance) → SameHead (MaxFlow a b G) P → IsMade (MaxFlow a b) G.nodes P
open_max a b G (MaxFlow c d H) h = record { graph = H; is = rw (h.0, h.1); nodes_are = h.2 }
open_max a b G _ h = absurd h

pub max_making : (a b : ℤ) → IsMaking capacities (MaxFlow a b)
max_making a b = record {
  kind_laws = total_kind;
  opens = open_max a b;
  head_is = λ G H n. (refl, refl, n);
  lines_are = λ G. refl;
  size_is = λ G. refl;
  same_graph = λ G H e. e.2;
  make_same = λ G H e. (refl, refl, e);
  valid_graph = λ G v. v.0;
  make_valid = λ G H n v w. (w, rw n at (v.1));
}

-- a problem with the head of an `sp` graph is made of a graph
open_sp : (G : Graph _) (P : Instance) → SameHead (ShortestPaths G) P → IsMade ShortestPaths G.nodes P
open_sp G (ShortestPaths H) h = record { graph = H; is = refl; nodes_are = h }
open_sp G _ h = absurd h

pub sp_making : IsMaking lengths ShortestPaths
sp_making = record {
  kind_laws = length_kind;
  opens = open_sp;
  head_is = λ G H n. n;
  lines_are = λ G. refl;
  size_is = λ G. refl;
  same_graph = λ G H e. e;
  make_same = λ G H e. e;
  valid_graph = λ G v. v;
  make_valid = λ G H n v w. w;
}

-- the arcs of graphs, one after another
abbrev pub all_arcs : {Arc : Type 0} → List (Graph Arc) → List ((ℤ × ℤ) × Arc)
all_arcs graphs = flat_map (λ G. G.arcs) graphs

module _ {Arc : Type 0} {kind : ArcKind Arc} {make : Graph Arc → Instance} (making : IsMaking kind make) where
  abbrev line : (ℤ × ℤ) × Arc → (ℤ × ℤ) × List ℤ
  line a = (a.0, kind.numbers a.1)

  -- arcs whose lines are equal are equal
  lines_one : (xs ys : List ((ℤ × ℤ) × Arc)) → map line xs ≡ map line ys → xs ≡ ys
  lines_one [] [] e = refl
  lines_one [] (b ∷ ys) e = cc
  lines_one (a ∷ xs) [] e = cc
  lines_one ((p, x) ∷ xs) ((q, y) ∷ ys) e =
      let first : line (p, x) ≡ line (q, y) = cc in
      let pair : p ≡ q = ap (λ (l : (ℤ × ℤ) × List ℤ). l.0) first in
      let numbers : kind.numbers x ≡ kind.numbers y = ap (λ (l : (ℤ × ℤ) × List ℤ). l.1) first in
      let arc : x ≡ y = making.kind_laws.one_arc x y numbers in
      let rest : xs ≡ ys = lines_one xs ys cc in
      cc

  -- parts, given by their graphs
  pub record AreMade (nodes : ℤ) (parts : List Instance) : Type 0 where
    pub graphs : List (Graph Arc)
    pub are : parts ≡ map make graphs
    pub nodes_are : AllByRecursion (λ (H : Graph Arc). nodes ≡ H.nodes) graphs

  pub graphs_of : (G : Graph Arc) (parts : List Instance) → AllByRecursion (SameHead (make G)) parts
      → AreMade G.nodes parts
  graphs_of G [] h = record { graphs = []; are = refl; nodes_are = tt }
  graphs_of G (P ∷ parts) h =
      let first = making.opens G P h.0 in
      let rest = graphs_of G parts h.1 in
      record { graphs = first.graph ∷ rest.graphs; are = cc; nodes_are = (first.nodes_are, rest.nodes_are) }

  pub all_lines : (Hs : List (Graph Arc)) → flat_map arc_lines (map make Hs) ≡ map line (all_arcs Hs)
  all_lines [] = refl
  all_lines (H ∷ Hs) = rw (making.lines_are H, all_lines Hs, map-append line H.arcs (all_arcs Hs))

  -- the arcs of a graph that is made of parts are the arcs of the parts
  pub arcs_are : (G : Graph Arc) (Hs : List (Graph Arc)) → AreParts (map make Hs) (make G) → G.arcs ≡ all_arcs Hs
  arcs_are G Hs p = lines_one G.arcs (all_arcs Hs) (sym (making.lines_are G) ∙ p.arcs ∙ all_lines Hs)

  -- the arcs of graphs that are the same, one graph after another, mean the same
  same_all : (Hs Ks : List (Graph Arc)) → AreSame (map make Hs) (map make Ks)
      → SameAt kind making.kind_laws.meaning (all_arcs Hs) (all_arcs Ks)
  same_all [] [] s = record { at = λ p. making.kind_laws.meaning.same_refl [] }
  same_all [] (K ∷ Ks) s = absurd s
  same_all (H ∷ Hs) [] s = absurd s
  same_all (H ∷ Hs) (K ∷ Ks) s =
      let meaning = making.kind_laws.meaning in
      same_joined (SameAt kind meaning) (placed_meaning kind meaning) H.arcs K.arcs (all_arcs Hs) (all_arcs Ks)
      (record { at = (making.same_graph H K s.0).bundles }) (same_all Hs Ks s.1)

  graphs_same : (G K : Graph Arc) (Hs Ks : List (Graph Arc)) → G.nodes ≡ K.nodes → AreParts (map make Hs) (make G)
      → AreParts (map make Ks) (make K) → AreSame (map make Hs) (map make Ks) → IsSame (make G) (make K)
  graphs_same G K Hs Ks n p q s =
      let all : SameAt kind making.kind_laws.meaning G.arcs K.arcs =
      rw (arcs_are G Hs p, arcs_are K Ks q) (same_all Hs Ks s) in
      making.make_same G K (record { nodes = n; bundles = all.at })

  made_same : (G : Graph Arc) (J : Instance) (parts others : List Instance) → SameHead (make G) J
      → AreParts parts (make G) → AreParts others J → AreSame parts others → IsSame (make G) J
  made_same G J parts others h p q s =
      let o = making.opens G J h in
      let q' : AreParts others (make o.graph) = rw (o.is) at q in
      let hs = graphs_of G parts p.heads in
      let ks = graphs_of o.graph others q'.heads in
      rw (o.is) (graphs_same G o.graph hs.graphs ks.graphs o.nodes_are (rw (hs.are) at p) (rw (ks.are) at q')
      (rw (hs.are, ks.are) at s))

-- problems that are made of the same parts are the same problem
pub parts_same : (I J : Instance) (parts others : List Instance) → AreParts parts I → AreParts others J
    → AreSame parts others → IsSame I J
parts_same I J parts others p q s = by_kind I (heads_agree I J parts others p q s) p
  where
    by_kind : (I : Instance) → SameHead I J → AreParts parts I → IsSame I J
    by_kind (MinCostFlow a G) h p = made_same (min_making a) G J parts others h p q s
    by_kind (MaxFlow a b G) h p = made_same (max_making a b) G J parts others h p q s
    by_kind (ShortestPaths G) h p = made_same sp_making G J parts others h p q s
    by_kind _ h p = absurd h
