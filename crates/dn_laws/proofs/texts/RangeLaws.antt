-- Lemmas that the canonical arcs of ranges of SRC, one range after another, are the canonical arcs of the whole.
use Rattle.std.proofs.Common.{◌≡◌, ◌↔◌, ◌-◌, ◌^◌, ℤ, pos, ◌≤ℤ◌, ◌<ℤ◌, List, [], ◌∷◌, ◌++◌, map, refl, sym, ap, arith, append-nil, IsTrue}
use Rattle.std.proofs.lemmas.Int.{ints}
use Rattle.std.specs.Cmp.{int_cmp_is}
use Rattle.std.specs.List.{AllByRecursion, flat_map}
use Rattle.std.specs.Ordering.{is_le}
use Rattle.std.specs.declared.cmp.Ordering.TheVariants.{Less}
use Rattle.dn_arc_theory.specs.declared.arc.Form.{Form}
use Rattle.dn_arc_theory.specs.State.Bundles.{IsKind}
use Rattle.dn_arc_theory.specs.Kinds.{ArcKind}
use Rattle.dn_arc_theory.proofs.OrdersLaws.{same_joined}
use Rattle.dn_arc_theory.specs.Pairs.{bundle, pair_cmp, pair_le}
use Rattle.dn_instance.specs.Instances.{Graph, Instance}
use Rattle.dn_instance.specs.State.Parts.{AreParts, SameHead, arc_lines}
use Rattle.dn_instance.specs.Sameness.{IsSame}
use Rattle.dn_instance.specs.Validity.{IsValid}
use Rattle.dn_instance.proofs.MapLaws.{all_mono}
use Rattle.dn_laws.proofs.instances.PartLaws.{all_arcs, graphs_of, arcs_are, all_lines, own_head, head_then}
use Rattle.dn_instance.proofs.SameLaws.{SameAt, placed_meaning, sym_of, trans_of}
use Rattle.dn_canon.specs.CanonInstances.{AreInOrder, IsCanonInstanceOf}
use Rattle.dn_canon.specs.State.PartCanons.{AreCanonsOf, AreBelow, AreRanges, HasCanonParts}
use Rattle.dn_canon.proofs.ArcItems.{bundle_append}
use Rattle.dn_laws.proofs.texts.ChunkLaws.{IsCanonMaking, by_kind, canons_valid, placed_all, whole_of, whole_same}
use Rattle.dn_canon.proofs.PartLaws.{all_append}
use Rattle.dn_canon.proofs.TextLaws.{canon_one}
use Rattle.dn_canon.proofs.ListedLaws.{all_from, at_some}

-- a pair with a lesser tail is less
less_by_tail : (p q : ℤ × ℤ) → p.0 <ℤ q.0 → pair_cmp p q ≡ Less
less_by_tail p q h = rw (← int_cmp_is p.0 q.0 Less h)

-- a fact holds of each element
each_of : {X : Type 0} (P : Type 0) → P → (xs : List X) → AllByRecursion (λ (x : X). P) xs
each_of P h [] = tt
each_of P h (x ∷ xs) = (h, each_of P h xs)

-- what holds of the mapped list holds of the image of each element
all_unmap : {X Y : Type 0} (P : Y → Type 0) (f : X → Y) (xs : List X) → AllByRecursion P (map f xs)
    → AllByRecursion (λ x. P (f x)) xs
all_unmap P f [] h = tt
all_unmap P f (x ∷ xs) h = (h.0, all_unmap P f xs h.1)

module _ {Arc : Type 0} where
  -- each SRC of the first arcs is below each SRC of the second
  abbrev pub IsBelow : List ((ℤ × ℤ) × Arc) → List ((ℤ × ℤ) × Arc) → Type 0
  IsBelow xs ys = AllByRecursion (λ a. AllByRecursion (λ b. a.0.0 <ℤ b.0.0) ys) xs

  -- a pair whose SRC is below all SRCs has no arcs
  none_below : (p : ℤ × ℤ) (ys : List ((ℤ × ℤ) × Arc)) → AllByRecursion (λ b. p.0 <ℤ b.0.0) ys → bundle p ys ≡ []
  none_below p [] h = refl
  none_below p (b ∷ ys) h = rw (less_by_tail p b.0 h.0) (none_below p ys h.1)

  -- each pair has arcs in at most one of the two lists
  in_one : (Q : List Arc → Type 0) (p : ℤ × ℤ) (xs ys : List ((ℤ × ℤ) × Arc)) → IsBelow xs ys → Q (bundle p xs)
      → Q (bundle p ys) → Q (bundle p (xs ++ ys))
  in_one Q p xs ys below low high = rw (bundle_append p xs ys) (by_low (bundle p xs) refl low)
    where
      by_low : (us : List Arc) → bundle p xs ≡ us → Q us → Q (us ++ bundle p ys)
      by_low [] e h = high
      by_low (u ∷ us) e h =
          rw (
            none_below p ys (at_some _ (λ q. AllByRecursion (λ b. q.0 <ℤ b.0.0) ys) (λ a g. g) xs p u us below e),
            append-nil (u ∷ us),
          ) h

  -- two sorted lists, the first below the second, are sorted together
  order_joined : (xs ys : List ((ℤ × ℤ) × Arc)) → IsBelow xs ys → AreInOrder xs → AreInOrder ys → AreInOrder (xs ++ ys)
  order_joined [] ys below r s = s
  order_joined (a ∷ xs) ys below r s = (
    all_append (λ b. IsTrue (pair_le a.0 b.0)) xs ys r.0
        (all_mono (λ b. a.0.0 <ℤ b.0.0) _ (λ b h. ap is_le (less_by_tail a.0 b.0 h)) ys below.0),
    order_joined xs ys below.1 r.1 s,
  )

module _ {Arc : Type 0} (kind : ArcKind Arc) (laws : IsKind kind) (form : Form) where
  -- canonical arcs with the same meaning as these arcs
  pub record AreCanonArcs (xs cs : List ((ℤ × ℤ) × Arc)) : Type 0 where
    pub in_order : AreInOrder cs
    pub canonical : (p : ℤ × ℤ) → kind.IsCanon form (bundle p cs)
    pub bounded : (p : ℤ × ℤ) → kind.capacity (bundle p cs) ≤ℤ pos (2 ^ 63 - 1)
    pub same : SameAt kind laws.meaning xs cs

  none_canon : AreCanonArcs [] []
  none_canon = record {
    in_order = tt;
    canonical = λ p. laws.none_canon form;
    bounded = λ p. (let e = laws.capacity_append [] [] in omega (arith, ints));
    same = record { at = λ p. laws.meaning.same_refl [] };
  }

  -- canonical arcs have no other SRCs
  same_tails : (F : ℤ → Type 0) (xs cs : List ((ℤ × ℤ) × Arc)) → AreCanonArcs xs cs → AllByRecursion (λ a. F a.0.0) xs
      → AllByRecursion (λ a. F a.0.0) cs
  same_tails F xs cs c h = all_from (λ a. F a.0.0) cs (λ q. by_bundle q (bundle q xs) refl)
    where
      by_bundle : (q : ℤ × ℤ) (us : List Arc) → bundle q xs ≡ us → AllByRecursion (λ x. F q.0) (bundle q cs)
      by_bundle q [] e =
          let listed = laws.meaning.same_sym [] (bundle q cs) (rw e at (c.same.at q)) in
          rw (laws.nothing_listed form (bundle q cs) (c.canonical q) listed) tt
      by_bundle q (u ∷ us) e =
          each_of (F q.0) (at_some (λ a. F a.0.0) (λ p. F p.0) (λ a g. g) xs q u us h e) (bundle q cs)

  -- canonical arcs are below others if the arcs are
  below_canon : (xs cs ys ds : List ((ℤ × ℤ) × Arc)) → AreCanonArcs xs cs → AreCanonArcs ys ds → IsBelow xs ys
      → IsBelow cs ds
  below_canon xs cs ys ds c d h =
      same_tails (λ t. AllByRecursion (λ b. t <ℤ b.0.0) ds) xs cs c
      (all_mono _ (λ a. AllByRecursion (λ b. a.0.0 <ℤ b.0.0) ds) (λ a g. same_tails (λ u. a.0.0 <ℤ u) ys ds d g) xs h)

  -- the canonical arcs of two ranges are those of both together
  joined_canon : (xs cs ys ds : List ((ℤ × ℤ) × Arc)) → AreCanonArcs xs cs → AreCanonArcs ys ds → IsBelow xs ys
      → AreCanonArcs (xs ++ ys) (cs ++ ds)
  joined_canon xs cs ys ds c d h =
      let below = below_canon xs cs ys ds c d h in
      record {
        in_order = order_joined cs ds below c.in_order d.in_order;
        canonical = λ p. in_one (kind.IsCanon form) p cs ds below (c.canonical p) (d.canonical p);
        bounded = λ p. in_one (λ l. kind.capacity l ≤ℤ pos (2 ^ 63 - 1)) p cs ds below (c.bounded p) (d.bounded p);
        same = same_joined (SameAt kind laws.meaning) (placed_meaning kind laws.meaning) xs cs ys ds c.same d.same;
      }

module _ {Arc : Type 0} {kind : ArcKind Arc} {make : Graph Arc → Instance} (canon : IsCanonMaking kind make)
    (form : Form) where
  abbrev CanonArcs : List ((ℤ × ℤ) × Arc) → List ((ℤ × ℤ) × Arc) → Type 0
  CanonArcs xs cs = AreCanonArcs kind canon.making.kind_laws form xs cs

  one_canon : (H C : Graph Arc) → IsCanonInstanceOf form (make C) (make H) → CanonArcs H.arcs C.arcs
  one_canon H C c =
      let canonical = canon.canon_graph form C c.canonical in
      record {
        in_order = canonical.in_order;
        canonical = canonical.canonical;
        bounded = (canon.making.valid_graph C c.valid).capacities;
        same = record { at = (canon.making.same_graph H C c.same).bundles };
      }

  -- if the arc lines of ranges are below each other, the arcs are
  below_arcs : (H : Graph Arc) (Hs : List (Graph Arc))
      → AreBelow (arc_lines (make H)) (flat_map arc_lines (map make Hs)) → IsBelow H.arcs (all_arcs Hs)
  below_arcs H Hs h =
      let line : (ℤ × ℤ) × Arc → (ℤ × ℤ) × List ℤ = λ a. (a.0, kind.numbers a.1) in
      let lines : AreBelow (map line H.arcs) (map line (all_arcs Hs)) =
      rw (canon.making.lines_are H, all_lines canon.making Hs) at h in
      all_mono _ (λ a. AllByRecursion (λ b. a.0.0 <ℤ b.0.0) (all_arcs Hs))
      (λ a g. all_unmap (λ (m : (ℤ × ℤ) × List ℤ). a.0.0 <ℤ m.0.0) line (all_arcs Hs) g) H.arcs
      (all_unmap
      (λ (l : (ℤ × ℤ) × List ℤ). AllByRecursion (λ (m : (ℤ × ℤ) × List ℤ). l.0.0 <ℤ m.0.0)
      (map line (all_arcs Hs))) line H.arcs lines)

  all_canon : (Hs Cs : List (Graph Arc)) → AreCanonsOf form (map make Cs) (map make Hs) → AreRanges (map make Hs)
      → CanonArcs (all_arcs Hs) (all_arcs Cs)
  all_canon [] [] c r = none_canon kind canon.making.kind_laws form
  all_canon [] (C ∷ Cs) c r = absurd c
  all_canon (H ∷ Hs) [] c r = absurd c
  all_canon (H ∷ Hs) (C ∷ Cs) c r =
      joined_canon kind canon.making.kind_laws form H.arcs C.arcs (all_arcs Hs) (all_arcs Cs) (one_canon H C c.0)
      (all_canon Hs Cs c.1 r.1) (below_arcs H Hs r.0)

  -- a graph with the canonical arcs of ranges is canonical
  graph_canon : (G K : Graph Arc) (xs : List ((ℤ × ℤ) × Arc)) (Cs : List (Graph Arc))
      → AllByRecursion (λ (C : Graph Arc). K.nodes ≡ C.nodes) Cs → AllByRecursion IsValid (map make Cs)
      → AreParts (map make Cs) (make K) → CanonArcs xs (all_arcs Cs) → IsSame (make G) (make K)
      → IsCanonInstanceOf form (make K) (make G)
  graph_canon G K xs [] n v p c s = absurd (p.some refl)
  graph_canon G K xs (C ∷ Cs) n v p c s =
      let making = canon.making in
      let arcs = arcs_are making K (C ∷ Cs) p in
      let all : CanonArcs xs K.arcs = rw arcs c in
      let first = making.valid_graph C v.0 in
      record {
        valid = making.make_valid C K (sym n.0) v.0
            (record {
              some_nodes = rw (n.0) (first.some_nodes);
              nodes_fit = rw (n.0) (first.nodes_fit);
              placed = rw arcs (placed_all making K.nodes (C ∷ Cs) n v);
              capacities = all.bounded;
            });
        canonical = canon.make_canon form K (record { in_order = all.in_order; canonical = all.canonical });
        same = s;
      }

  made_canon : (G : Graph Arc) (J : Instance) (parts canons : List Instance) → SameHead (make G) J → IsSame (make G) J
      → AreParts parts (make G) → AreCanonsOf form canons parts → AreRanges parts → AreParts canons J
      → IsCanonInstanceOf form J (make G)
  made_canon G J parts canons h s p c r q =
      let o = canon.making.opens G J h in
      let q' : AreParts canons (make o.graph) = rw (o.is) at q in
      let s' : IsSame (make G) (make o.graph) = rw (o.is) at s in
      let hs = graphs_of canon.making G parts p.heads in
      let cs = graphs_of canon.making o.graph canons q'.heads in
      rw (o.is)
      (graph_canon G o.graph (all_arcs hs.graphs) cs.graphs cs.nodes_are
      (rw (cs.are) at (canons_valid form canons parts c)) (rw (cs.are) at q')
      (all_canon hs.graphs cs.graphs (rw (hs.are, cs.are) at c) (rw (hs.are) at r)) s')

-- the problem made of the canonical instances of ranges is the canonical instance
pub canon_made : (form : Form) (I J : Instance) (c : HasCanonParts form I) → AreRanges c.parts → AreParts c.canons J
    → IsCanonInstanceOf form J I
canon_made form I J c r w =
    let own = own_head I c.parts c.parts_are in
    let same = whole_same form I J c w in
    by_kind (λ I. SameHead I J → IsSame I J → AreParts c.parts I → IsCanonInstanceOf form J I)
    (λ Arc kind make canon G h s p. made_canon canon form G J c.parts c.canons h s p c.canons_are r w) I
    own (head_then I I J own same) same c.parts_are

-- the canonical instance is made of the canonical instances of ranges
made_of_canon : (form : Form) (I J : Instance) (c : HasCanonParts form I) → AreRanges c.parts
    → IsCanonInstanceOf form J I → AreParts c.canons J
made_of_canon form I J c r j =
    let (W, w) = whole_of form I c in
    let canon = canon_made form I W c r w in
    rw (canon_one form W J canon.canonical j.canonical (trans_of W I J (sym_of I W canon.same) j.same)) at w

pub ranges_canon : (form : Form) (I J : Instance) (c : HasCanonParts form I) → AreRanges c.parts
    → AreParts c.canons J ↔ IsCanonInstanceOf form J I
ranges_canon form I J c r = (canon_made form I J c r, made_of_canon form I J c r)
