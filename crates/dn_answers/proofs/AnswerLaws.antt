-- Instances that pose the same problem have the same answers. So do texts with the same canonical text, and a text and
-- its canonical text.
use Rattle.std.specs.Prelude.{ℕ, ◌-◌, ◌<◌, ◌^◌, List, length, refl}
use Rattle.dn_line.specs.Pieces.{lines}
use Rattle.dn_instance.specs.Instances.{Instance, MinCostFlow, MaxFlow, ShortestPaths, Sources, Queries, Coordinates}
use Rattle.dn_instance.specs.Validity.{IsValid}
use Rattle.dn_instance.specs.Sameness.{IsSame}
use Rattle.dn_answers.specs.Answers.{HaveSameAnswers, HasAnswersOf}
use Rattle.dn_arc_theory.specs.declared.arc.Form.{Form}
use Rattle.dn_instance.specs.Texts.{Reads}
use Rattle.dn_instance.proofs.ValidLaws.{reads_valid}
use Rattle.dn_canon.specs.CanonTexts.{IsCanonOf}
use Rattle.dn_canon.proofs.TextLaws.{texts_agree, reads_twice}
use Rattle.dn_answers.proofs.WalkLaws.{same_bounds as walk_bounds, same_distances}
use Rattle.dn_answers.proofs.FlowLaws.{caps_of, same_values, same_greatest, same_bounds, same_least}

-- valid instances that are the same problem have the same answers
pub same_answers : (I J : Instance) → IsValid I → IsValid J → IsSame I J → HaveSameAnswers I J
same_answers (MinCostFlow s G) (MinCostFlow t H) v w e =
    rw (← e.0) (same_bounds s G H e.1, same_least s G H e.1)
same_answers (MaxFlow a b G) (MaxFlow c d H) v w e =
    let g = caps_of G.nodes G.arcs v.0.placed in
    let h = caps_of H.nodes H.arcs w.0.placed in
    rw (← e.0, ← e.1) (same_values a b G H e.2 g h, same_greatest a b G H e.2 g h)
same_answers (ShortestPaths G) (ShortestPaths H) v w e = (walk_bounds G H e, same_distances G H e)
same_answers (Sources xs) (Sources ys) v w e = e
same_answers (Queries xs) (Queries ys) v w e = e
same_answers (Coordinates xs) (Coordinates ys) v w e = e
same_answers _ _ v w e = absurd e

-- texts with the same canonical text have the same answers
pub canon_answers : (form : Form) (t u canon : List ℕ) (I J : Instance) → Reads t I → Reads u J → IsCanonOf form canon I
    → IsCanonOf form canon J → HaveSameAnswers I J
canon_answers form t u canon I J r q c d =
    same_answers I J (reads_valid t I r) (reads_valid u J q) ((texts_agree form canon canon I J c d).0 refl)

-- a short enough canonical text reads as one instance, with the same answers
pub text_answers : (form : Form) (t canon : List ℕ) (I : Instance) → Reads t I → IsCanonOf form canon I
    → length (lines canon) < 2 ^ 63 - 1 → HasAnswersOf I canon
text_answers form t canon I r c few =
    let (J, b) = reads_twice form canon I few c in
    record {
      other = J;
      reads = b.back.reads;
      only = b.back.only;
      same = same_answers I J (reads_valid t I r) (reads_valid canon J b.back.reads) b.back.same;
    }
