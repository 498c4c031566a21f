-- Lemmas on canonical texts: their bytes are equal if and only if the problems are the same, and what they read as.
use Rattle.std.proofs.Common.{◌≡◌, ◌↔◌, ℕ, ◌+◌, ◌-◌, ◌<◌, ◌^◌, List, [], ◌∷◌, length, false, sym, ap, ◌∙◌, arith, length-append}
use Rattle.std.proofs.lemmas.Bool.Decides.{nat_tests}
use Rattle.dn_line.specs.Pieces.{lines}
use Rattle.dn_line.specs.declared.code.Code.TheVariants.{TooLong}
use Rattle.dn_arc_theory.specs.declared.arc.Form.{Form}
use Rattle.dn_arc_theory.specs.Kinds.{ArcKind, lengths, capacities, costs}
use Rattle.dn_arc_theory.specs.State.Bundles.{IsDetermined}
use Rattle.dn_arc_theory.proofs.LengthKindLaws.{length_determined}
use Rattle.dn_arc_theory.proofs.TotalKindLaws.{total_determined}
use Rattle.dn_arc_theory.proofs.FormTwoLaws.{determination_of_forms}
use Rattle.dn_instance.specs.Instances.{Graph, Instance, MinCostFlow, MaxFlow, ShortestPaths, Sources, Queries, Coordinates}
use Rattle.dn_instance.specs.Sameness.{SameGraph, IsSame}
use Rattle.dn_instance.specs.TextFaults.{is_too_long}
use Rattle.dn_instance.specs.Texts.{Reads}
use Rattle.dn_instance.proofs.FirstFaults.{by_clean_lines, none_first}
use Rattle.dn_instance.proofs.SameLaws.{refl_of, sym_of, trans_of}
use Rattle.dn_instance.proofs.ValidLaws.{some_is}
use Rattle.dn_canon.specs.CanonInstances.{IsCanonGraph, IsCanonInstance, IsCanonInstanceOf}
use Rattle.dn_canon.specs.CanonTexts.{IsCanonOf, PrintsCanon}
use Rattle.dn_canon.specs.State.CanonReadings.{ReadsTwice}
use Rattle.dn_canon.specs.Prints.{print}
use Rattle.dn_canon.proofs.OrderLaws.{order_one}
use Rattle.dn_canon.proofs.PrintLaws.{print_one, print_reads}

-- canonical graphs that mean the same are the same
graph_one : {Arc : Type 0} (kind : ArcKind Arc) → IsDetermined kind → (form : Form) (G H : Graph Arc)
    → IsCanonGraph kind form G → IsCanonGraph kind form H → SameGraph kind.Same G H → G ≡ H
graph_one kind determined form G H c d s =
    let arcs =
    order_one G.arcs H.arcs c.in_order d.in_order
    (λ q. determined form _ _ (c.canonical q) (d.canonical q) (s.bundles q)) in
    λ i. record { nodes = s.nodes i; arcs = arcs i }

-- canonical instances that pose the same problem are equal
pub canon_one : (form : Form) (I J : Instance) → IsCanonInstance form I → IsCanonInstance form J → IsSame I J → I ≡ J
canon_one form (MinCostFlow s G) (MinCostFlow t H) c d e =
    let graph = graph_one costs determination_of_forms form G H c d e.1 in λ i. MinCostFlow (e.0 i) (graph i)
canon_one form (MaxFlow a b G) (MaxFlow a' b' H) c d e =
    let graph = graph_one capacities total_determined form G H c d e.2 in λ i. MaxFlow (e.0 i) (e.1 i) (graph i)
canon_one form (ShortestPaths G) (ShortestPaths H) c d e =
    ap ShortestPaths (graph_one lengths length_determined form G H c d e)
canon_one form (Sources xs) (Sources ys) c d e = ap Sources e
canon_one form (Queries xs) (Queries ys) c d e = ap Queries e
canon_one form (Coordinates xs) (Coordinates ys) c d e = ap Coordinates e
canon_one form _ _ c d e = absurd e

-- texts of the same problem have equal canonical texts
same_bytes : (form : Form) (t u : List ℕ) (I J : Instance) → IsCanonOf form t I → IsCanonOf form u J → IsSame I J
    → t ≡ u
same_bytes form t u I J (C, c) (D, d) s =
    let same = trans_of C I D (sym_of I C c.canon.same) (trans_of I J D s d.canon.same) in
    c.text_is ∙ ap print (canon_one form C D c.canon.canonical d.canon.canonical same) ∙ sym d.text_is

-- canonical texts are equal if and only if the problems are the same
pub texts_agree : (form : Form) (t u : List ℕ) (I J : Instance) → IsCanonOf form t I → IsCanonOf form u J
    → (t ≡ u) ↔ IsSame I J
texts_agree form t u I J (C, c) (D, d) = (
  λ e.
      let one : C ≡ D = print_one C D c.canon.valid d.canon.valid (sym c.text_is ∙ e ∙ d.text_is) in
      trans_of I C J c.canon.same (sym_of J C (rw one d.canon.same)),
  same_bytes form t u I J (C, c) (D, d),
)

-- a canonical text with few enough lines reads as the instance that it prints
canon_reads : (form : Form) (t : List ℕ) (I C : Instance) → length (lines t) < 2 ^ 63 - 1 → PrintsCanon form t I C
    → Reads t C
canon_reads form t I C few c = rw c.text_is (print_reads C c.canon.valid (rw c.text_is at few))

-- a canonical text with few enough lines reads as one instance, and is its only canonical text
pub reads_twice : (form : Form) (t : List ℕ) (I : Instance) → length (lines t) < 2 ^ 63 - 1 → IsCanonOf form t I
    → (J : Instance) × ReadsTwice form t I J
reads_twice form t I few (C, c) =
    let reads = canon_reads form t I C few c in
    let canon : IsCanonInstanceOf form C C =
    record { valid = c.canon.valid; canonical = c.canon.canonical; same = refl_of C } in
    let own : IsCanonOf form t C = (C, record { canon = canon; text_is = c.text_is }) in (
      C,
      record {
        back =
            record
            { reads = reads; same = c.canon.same; only = λ K r. some_is K C (sym r.instance_is ∙ reads.instance_is) };
        again = own;
        only = λ u d. same_bytes form u t C C d own (refl_of C);
      },
    )

-- a line number that is in range is below 2^63-1
short : (n : ℕ) → is_too_long n ≡ false → n < 2 ^ 63 - 1
short n h = grind (arith, nat_tests)

-- an accepted text has fewer than 2^63-1 lines
reads_few : (t : List ℕ) (I : Instance) → Reads t I → length (lines t) < 2 ^ 63 - 1
reads_few t I r =
    by_clean_lines (λ ls. length ls < 2 ^ 63 - 1) (lines t) r.clean
    (λ b l h few. omega (
      arith,
      length-append b (l ∷ []),
      short (length b + 1) (none_first (is_too_long (length b + 1)) TooLong _ h).0,
    )) (omega arith)

-- what a canonical text reads as is the canonical instance
pub reads_canon : (form : Form) (t : List ℕ) (I J : Instance) → IsCanonOf form t I → Reads t J
    → IsCanonInstanceOf form J I
reads_canon form t I J (C, c) r =
    let reads = canon_reads form t I C (reads_few t J r) c in
    rw (some_is J C (sym r.instance_is ∙ reads.instance_is)) c.canon

-- what a canonical text reads as has the same canonical texts as the instance that it came from
pub forms_cross : (from to : Form) (t u v : List ℕ) (I J : Instance) → IsCanonOf from t I → Reads t J → IsCanonOf to u I
    → IsCanonOf to v J → u ≡ v
forms_cross from to t u v I J c r d e =
    let (K, back) = reads_twice from t I (reads_few t J r) c in
    same_bytes to u v I J d e (rw (back.back.only J r) back.back.same)
