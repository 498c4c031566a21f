-- Lemmas on the canonical text of a graph problem whose parts are ranges of SRC: its head, and the arc lines of the
-- parts.
use Rattle.std.proofs.Common.{◌≡◌, ◌↔◌, ℕ, ℤ, List, [], ◌∷◌, ◌++◌, map, refl, sym, ap}
use Rattle.std.proofs.lemmas.List.{map-append}
use Rattle.std.specs.List.{AllByRecursion, flat_map, sum_by}
use Rattle.dn_sink.specs.Rows.{text_of}
use Rattle.dn_arc_theory.specs.declared.arc.Form.{Form}
use Rattle.dn_arc_theory.specs.Kinds.{ArcKind, lengths, capacities, costs}
use Rattle.dn_instance.specs.Instances.{Instance, MinCostFlow, MaxFlow, ShortestPaths, size_of}
use Rattle.dn_instance.specs.State.Parts.{AreParts, SameHead, arc_lines}
use Rattle.dn_laws.proofs.instances.PartLaws.{own_head, head_then, head_turned}
use Rattle.dn_instance.proofs.SameLaws.{refl_of}
use Rattle.dn_canon.specs.CanonTexts.{IsCanonOf}
use Rattle.dn_canon.specs.State.PartCanons.{AreRanges, HasCanonParts, line_row, arc_rows, head_rows, gathered_rows}
use Rattle.dn_canon.specs.Prints.{rows, arc_row}
use Rattle.dn_laws.proofs.texts.ChunkLaws.{whole_of, whole_size}
use Rattle.dn_laws.proofs.texts.RangeLaws.{canon_made}
use Rattle.dn_canon.proofs.TextLaws.{texts_agree}

-- the rows of arcs are the rows of their lines
rows_of : {Arc : Type 0} (kind : ArcKind Arc) (arcs : List ((ℤ × ℤ) × Arc))
    → map (arc_row kind) arcs ≡ map line_row (map (λ a. (a.0, kind.numbers a.1)) arcs)
rows_of kind [] = refl
rows_of kind (a ∷ arcs) = rw (rows_of kind arcs)

-- the rows of a graph problem are the rows before its arcs and the rows of its arcs
rows_parted : (I : Instance) → SameHead I I → rows I ≡ head_rows (size_of I) I ++ arc_rows I
rows_parted (MinCostFlow s G) h = rw (rows_of costs G.arcs)
rows_parted (MaxFlow a b G) h = rw (rows_of capacities G.arcs)
rows_parted (ShortestPaths G) h = rw (rows_of lengths G.arcs)
rows_parted _ h = absurd h

pub each_parted : (I : Instance) (others : List Instance) → AllByRecursion (SameHead I) others
    → AllByRecursion (λ C. rows C ≡ head_rows (size_of C) C ++ arc_rows C) others
each_parted I [] h = tt
each_parted I (C ∷ others) h = (rows_parted C (head_turned I C h.0), each_parted I others h.1)

-- the rows before the arcs follow from the head
head_one : (n : ℕ) (I J : Instance) → SameHead I J → head_rows n J ≡ head_rows n I
head_one n (MinCostFlow s G) (MinCostFlow t H) h = rw (h.0, h.1)
head_one n (MaxFlow a b G) (MaxFlow c d H) h = rw (h.0, h.1, h.2)
head_one n (ShortestPaths G) (ShortestPaths H) h = rw h
head_one n _ _ h = absurd h

-- the rows of the arc lines of parts are the arc rows of the parts, one part after another
parts_rows : (others : List Instance) → map line_row (flat_map arc_lines others) ≡ flat_map arc_rows others
parts_rows [] = refl
parts_rows (C ∷ others) = rw (map-append line_row (arc_lines C) (flat_map arc_lines others), parts_rows others)

-- the rows of a problem that is made of parts
rows_gathered : (I J : Instance) (others : List Instance) → SameHead I J → AreParts others J
    → rows J ≡ gathered_rows I others
rows_gathered I J others h p =
    rw (
      rows_parted J (own_head J others p),
      whole_size J others p,
      head_one (sum_by size_of others) I J h,
      p.arcs,
      parts_rows others,
    )

-- the canonical text of the whole
pub ranges_text : (form : Form) (t : List ℕ) (I : Instance) (c : HasCanonParts form I) → AreRanges c.parts
    → IsCanonOf form t I ↔ (t ≡ text_of (gathered_rows I c.canons))
ranges_text form t I c r =
    let (J, w) = whole_of form I c in
    let canon = canon_made form I J c r w in
    let head = head_then I I J (own_head I c.parts c.parts_are) canon.same in
    let own : IsCanonOf form (text_of (gathered_rows I c.canons)) I =
    (J, record { canon = canon; text_is = sym (ap text_of (rows_gathered I J c.canons head w)) }) in (
      λ x. (texts_agree form t (text_of (gathered_rows I c.canons)) I I x own).1 (refl_of I),
      λ e. rw e own,
    )
