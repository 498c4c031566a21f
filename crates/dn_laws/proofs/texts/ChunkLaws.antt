-- Lemmas on graph problems that are made of parts, and on problems made of the canonical instances of these parts.
use Rattle.std.proofs.Common.{◌≡◌, ◌≢◌, ◌↔◌, ℕ, ℤ, List, [], ◌∷◌, length, length-append, map, refl, sym, ap, ◌∙◌, subst}
use Rattle.std.proofs.lemmas.List.Sums.{sum_by-cons}
use Rattle.std.specs.List.{AllByRecursion, sum_by}
use Rattle.dn_arc_theory.specs.declared.arc.Form.{Form}
use Rattle.dn_arc_theory.specs.Kinds.{ArcKind, lengths, capacities, costs}
use Rattle.dn_arc_theory.specs.Pairs.{bundle}
use Rattle.dn_instance.specs.Instances.{Graph, Instance, MinCostFlow, MaxFlow, ShortestPaths, size_of}
use Rattle.dn_instance.specs.State.Parts.{SameHead, AreParts, AreSame}
use Rattle.dn_instance.specs.Sameness.{SameGraph, IsSame}
use Rattle.dn_instance.specs.Validity.{IsPlaced, IsValid, IsValidGraph}
use Rattle.dn_laws.proofs.instances.PartLaws.{IsMaking, min_making, max_making, sp_making, all_arcs, graphs_of, arcs_are, all_lines, head_then, own_head, parts_same}
use Rattle.dn_instance.proofs.SameLaws.{sym_of}
use Rattle.dn_canon.specs.CanonInstances.{IsCanonGraph, IsCanonInstance}
use Rattle.dn_canon.specs.CanonTexts.{IsCanonOf}
use Rattle.dn_canon.specs.State.PartCanons.{AreCanonsOf, HasCanonParts}
use Rattle.dn_canon.proofs.OrderLaws.{all_at_pair}
use Rattle.dn_canon.proofs.PartLaws.{all_append}
use Rattle.dn_canon.proofs.TextLaws.{texts_agree}

-- canonical instances are the same problems as the parts
pub canons_same : (form : Form) (canons parts : List Instance) → AreCanonsOf form canons parts → AreSame parts canons
canons_same form [] [] c = tt
canons_same form [] (I ∷ parts) c = absurd c
canons_same form (J ∷ canons) [] c = absurd c
canons_same form (J ∷ canons) (I ∷ parts) c = (c.0.same, canons_same form canons parts c.1)

-- canonical instances are valid
pub canons_valid : (form : Form) (canons parts : List Instance) → AreCanonsOf form canons parts
    → AllByRecursion IsValid canons
canons_valid form [] parts c = tt
canons_valid form (J ∷ canons) [] c = absurd c
canons_valid form (J ∷ canons) (I ∷ parts) c = (c.0.valid, canons_valid form canons parts c.1)

-- canonical instances have the heads of the parts
pub canons_heads : (form : Form) (I : Instance) (canons parts : List Instance) → AreCanonsOf form canons parts
    → AllByRecursion (SameHead I) parts → AllByRecursion (SameHead I) canons
canons_heads form I [] parts c h = tt
canons_heads form I (J ∷ canons) [] c h = absurd c
canons_heads form I (J ∷ canons) (P ∷ parts) c h =
    (head_then I P J h.0 c.0.same, canons_heads form I canons parts c.1 h.1)

-- if there are parts, there are canonical instances
canons_some : (form : Form) (canons parts : List Instance) → AreCanonsOf form canons parts → parts ≢ [] → canons ≢ []
canons_some form canons [] c some = λ e. some refl
canons_some form [] (P ∷ parts) c some = absurd c
canons_some form (J ∷ canons) (P ∷ parts) c some = λ e. cc

-- how the problems of a kind and head are made of their graphs, and which of them are canonical
pub record IsCanonMaking {Arc : Type 0} (kind : ArcKind Arc) (make : Graph Arc → Instance) : Type 0 where
  pub making : IsMaking kind make
  pub canon_graph : (form : Form) (G : Graph Arc) → IsCanonInstance form (make G) → IsCanonGraph kind form G
  pub make_canon : (form : Form) (G : Graph Arc) → IsCanonGraph kind form G → IsCanonInstance form (make G)

-- what holds of the graph problems of each kind holds of all graph problems
pub by_kind : (Q : Instance → Type 0)
    → ((Arc : Type 0) (kind : ArcKind Arc) (make : Graph Arc → Instance) → IsCanonMaking kind make → (G : Graph Arc)
    → Q (make G)) → (I : Instance) → SameHead I I → Q I
by_kind Q f (MinCostFlow s G) h =
    f _ costs _ (record { making = min_making s; canon_graph = λ form K c. c; make_canon = λ form K c. c }) G
by_kind Q f (MaxFlow a b G) h =
    f _ capacities _ (record { making = max_making a b; canon_graph = λ form K c. c; make_canon = λ form K c. c }) G
by_kind Q f (ShortestPaths G) h =
    f _ lengths _ (record { making = sp_making; canon_graph = λ form K c. c; make_canon = λ form K c. c }) G
by_kind Q f _ h = absurd h

module _ {Arc : Type 0} {kind : ArcKind Arc} {make : Graph Arc → Instance} (making : IsMaking kind make) where
  -- the arcs of valid parts are placed in the graph
  pub placed_all : (n : ℤ) (Hs : List (Graph Arc)) → AllByRecursion (λ (H : Graph Arc). n ≡ H.nodes) Hs
      → AllByRecursion IsValid (map make Hs) → AllByRecursion (IsPlaced kind n) (all_arcs Hs)
  placed_all n [] e v = tt
  placed_all n (H ∷ Hs) e v =
      all_append (IsPlaced kind n) H.arcs (all_arcs Hs) (rw (e.0) ((making.valid_graph H v.0).placed))
      (placed_all n Hs e.1 v.1)

  -- a graph with the meaning of a valid one is valid, if its arcs are placed
  valid_over : (G K : Graph Arc) → SameGraph kind.Same G K → IsValidGraph kind G
      → AllByRecursion (IsPlaced kind K.nodes) K.arcs → IsValidGraph kind K
  valid_over G K s v p =
      let are : (H : Graph Arc) → AllByRecursion (IsPlaced kind H.nodes) H.arcs → (q : ℤ × ℤ)
      → AllByRecursion kind.IsArc (bundle q H.arcs) =
      λ H placed q. all_at_pair (IsPlaced kind H.nodes) kind.IsArc (λ a h. h.is_arc) q H.arcs placed in
      record {
        some_nodes = rw (s.nodes) at (v.some_nodes);
        nodes_fit = rw (s.nodes) at (v.nodes_fit);
        placed = p;
        capacities =
            λ q. rw (making.kind_laws.same_capacity (bundle q G.arcs) (bundle q K.arcs) (are G v.placed q) (are K p q)
            (s.bundles q)) at (v.capacities q);
      }

  -- a problem made of valid parts is valid, if it is the same as a valid problem
  valid_made : (G : Graph Arc) (J : Instance) (others : List Instance) → SameHead (make G) J → IsSame (make G) J
      → AreParts others J → AllByRecursion IsValid others → IsValid (make G) → IsValid J
  valid_made G J others h s p each v =
      let o = making.opens G J h in
      let K = o.graph in
      let p' : AreParts others (make K) = rw (o.is) at p in
      let s' : IsSame (make G) (make K) = rw (o.is) at s in
      let ks = graphs_of making K others p'.heads in
      let placed : AllByRecursion (IsPlaced kind K.nodes) K.arcs =
      rw (arcs_are making K ks.graphs (rw (ks.are) at p'))
      (placed_all K.nodes ks.graphs ks.nodes_are (rw (ks.are) at each)) in
      rw (o.is)
      (making.make_valid G K o.nodes_are v
      (valid_over G K (making.same_graph G K s') (making.valid_graph G v) placed))

  heads_made : (K : Graph Arc) (Cs : List (Graph Arc)) → AllByRecursion (λ (C : Graph Arc). K.nodes ≡ C.nodes) Cs
      → AllByRecursion (SameHead (make K)) (map make Cs)
  heads_made K [] e = tt
  heads_made K (C ∷ Cs) e = (making.head_is K C e.0, heads_made K Cs e.1)

  -- parts with the same head make a problem
  whole_made : (G : Graph Arc) (others : List Instance) → others ≢ [] → AllByRecursion (SameHead (make G)) others
      → (W : Instance) × AreParts others W
  whole_made G others some h =
      let cs = graphs_of making G others h in
      let K : Graph Arc = record { nodes = G.nodes; arcs = all_arcs cs.graphs } in (
        make K,
        subst (λ l. AreParts l (make K)) (sym cs.are)
            (record {
              some = λ e. some (cs.are ∙ e);
              heads = heads_made K cs.graphs cs.nodes_are;
              arcs = making.lines_are K ∙ sym (all_lines making cs.graphs);
            }),
      )

  sizes : (Hs : List (Graph Arc)) → length (all_arcs Hs) ≡ sum_by size_of (map make Hs)
  sizes [] = refl
  sizes (H ∷ Hs) =
      rw (length-append H.arcs (all_arcs Hs), sizes Hs, ← making.size_is H, sum_by-cons size_of (make H) (map make Hs))

  -- the number of arcs is the sum of the numbers of the parts
  size_made : (K : Graph Arc) (others : List Instance) → AreParts others (make K)
      → size_of (make K) ≡ sum_by size_of others
  size_made K others p =
      let cs = graphs_of making K others p.heads in
      making.size_is K ∙ ap length (arcs_are making K cs.graphs (rw (cs.are) at p)) ∙ sizes cs.graphs
      ∙ ap (sum_by size_of) (sym cs.are)

parts_valid : (I J : Instance) (parts others : List Instance) → IsSame I J → AreParts parts I → AreParts others J
    → AllByRecursion IsValid others → IsValid I → IsValid J
parts_valid I J parts others s p q each v =
    let own = own_head I parts p in
    by_kind (λ I. SameHead I J → IsSame I J → IsValid I → IsValid J)
    (λ Arc kind make canon G h e w. valid_made canon.making G J others h e q each w) I own
    (head_then I I J own s) s v

-- the canonical instances of the parts make a problem
pub whole_of : (form : Form) (I : Instance) (c : HasCanonParts form I) → (W : Instance) × AreParts c.canons W
whole_of form I c =
    let some = canons_some form c.canons c.parts c.canons_are c.parts_are.some in
    by_kind (λ I. AllByRecursion (SameHead I) c.canons → (W : Instance) × AreParts c.canons W)
    (λ Arc kind make canon G h. whole_made canon.making G c.canons some h) I
    (own_head I c.parts c.parts_are) (canons_heads form I c.canons c.parts c.canons_are c.parts_are.heads)

-- the problem made of canonical instances is the same as the whole
pub whole_same : (form : Form) (I W : Instance) (c : HasCanonParts form I) → AreParts c.canons W → IsSame I W
whole_same form I W c w = parts_same I W c.parts c.canons c.parts_are w (canons_same form c.canons c.parts c.canons_are)

-- the problem made of canonical instances is valid if and only if the whole is
pub whole_valid : (form : Form) (I W : Instance) (c : HasCanonParts form I) → AreParts c.canons W
    → AllByRecursion IsValid c.parts → IsValid I ↔ IsValid W
whole_valid form I W c w each =
    let same = whole_same form I W c w in (
      parts_valid I W c.parts c.canons same c.parts_are w (canons_valid form c.canons c.parts c.canons_are),
      parts_valid W I c.canons c.parts (sym_of I W same) w c.parts_are each,
    )

-- the problem made of canonical instances has the canonical text of the whole
pub whole_bytes : (from to : Form) (t u : List ℕ) (I W : Instance) (c : HasCanonParts from I) → AreParts c.canons W
    → IsCanonOf to t I → IsCanonOf to u W → t ≡ u
whole_bytes from to t u I W c w x y = (texts_agree to t u I W x y).1 (whole_same from I W c w)

-- the number of counted lines is the sum of the numbers of the parts
pub whole_size : (J : Instance) (others : List Instance) → AreParts others J → size_of J ≡ sum_by size_of others
whole_size J others p =
    by_kind (λ J. AreParts others J → size_of J ≡ sum_by size_of others)
    (λ Arc kind make canon K q. size_made canon.making K others q) J (own_head J others p) p
