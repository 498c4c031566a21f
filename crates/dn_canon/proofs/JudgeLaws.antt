-- Lemmas on whether a text is the canonical text of what it reads as.
use Rattle.std.proofs.Common.{◌≡◌, ◌↔◌, ℕ, ◌<◌, ◌≤◌, ◌^◌, List, [], ◌∷◌, ◌++◌, length, length-append, append-nil, Bool, true, false, Some, Ok, Err, refl, sym, ap, ◌∙◌, arith}
use Rattle.std.proofs.lemmas.List.{drop_at, take_at}
use Rattle.std.specs.List.{join_with_byte}
use Rattle.dn_arc_theory.specs.declared.arc.Form.{Form}
use Rattle.dn_instance.specs.Instances.{Instance, size_of}
use Rattle.dn_instance.specs.State.ReaderResults.{Outcome}
use Rattle.dn_instance.specs.declared.refusal.Refusal.{Refusal}
use Rattle.dn_instance.specs.declared.refusal.Refusal.TheVariants.{Text, Memory, Write, CountTooLarge}
use Rattle.dn_instance.proofs.SameLaws.{refl_of}
use Rattle.dn_canon.specs.CanonInstances.{IsCanonInstanceOf}
use Rattle.dn_canon.specs.CanonTexts.{IsCanonOf}
use Rattle.dn_canon.specs.Prints.{rows, print}
use Rattle.dn_sink.specs.Rows.{Cells, line_text, text_of}
use Rattle.dn_canon.specs.State.Runs.{JudgesCanon}
use Rattle.dn_canon.specs.State.Writes.{WritesCanon}
use Rattle.dn_sink.specs.Sinks.{SinkFacts}
use Rattle.dn_sink.specs.State.Matches.{IsNoPrefix, Matched, taken_of}
use Rattle.dn_canon.proofs.FollowLaws.{count_rows}
use Rattle.dn_canon.proofs.InstanceItems.{rows_are}
use Rattle.dn_canon.proofs.TextLaws.{texts_agree}

-- a text has at least as many bytes as lines
rows_long : (rs : List Cells) → length rs ≤ length (text_of rs)
rows_long [] = omega arith
rows_long (r ∷ rs) =
    omega (
      arith,
      length-append (join_with_byte 32 r) (10 ∷ []),
      length-append (line_text r) (text_of rs),
      rows_long rs,
    )

-- an instance has at least as many bytes as counted lines
print_long : (I : Instance) → size_of I ≤ length (print I)
print_long I = omega (arith, count_rows I, ap length (rows_are I), rows_long (rows I))

-- a canonical text of an instance is the printed text of its canonical instance
only_text : (form : Form) (t : List ℕ) (I K : Instance) → IsCanonInstanceOf form K I → IsCanonOf form t I → print K ≡ t
only_text form t I K canon h =
    (texts_agree form (print K) t I I (K, record { canon = canon; text_is = refl }) h).1 (refl_of I)

-- the description of a sink that compares
abbrev matcher_words : SinkFacts Matched
matcher_words = record {
  taken = λ (m : Matched). Some (taken_of m);
  has_failed = λ (m : Matched). m.failed;
  is_flushed = λ (m : Matched). true;
}

-- what a comparing sink has taken determines the text and the bytes put
listed_apart : (t u put put' : List ℕ) → length t ∷ (t ++ put) ≡ length u ∷ (u ++ put') → (t ≡ u) × (put ≡ put')
listed_apart t u put put' e =
    let many : length t ≡ length u = cc in
    let rest : t ++ put ≡ u ++ put' = cc in (
      sym (take_at t put (length u) many) ∙ rw rest (take_at u put' (length u) refl),
      sym (drop_at t put (length u) many) ∙ rw rest (drop_at u put' (length u) refl),
    )

module _ (form : Form) (t : List ℕ) (I : Instance) (old new : Matched) (begins : old.text ≡ t)
    (empty : old.put ≡ []) where
  -- the bytes put are all that the sink has taken since it was made
  put_since : (put : List ℕ) → taken_of new ≡ taken_of old ++ put → (new.text ≡ t) × (new.put ≡ put)
  put_since put e =
      let from = rw (begins, empty) at e in
      listed_apart new.text t new.put put (from ∙ ap (λ l. length t ∷ (l ++ put)) (append-nil t))

  -- if the canonical text was put whole, the answer of the sink is right
  pub judged_whole : WritesCanon matcher_words old new form I (Ok tt) → (answer : Bool)
      → (answer ≡ true) ↔ (new.put ≡ new.text) → (answer ≡ true) ↔ IsCanonOf form t I
  judged_whole (J, canon, w) answer match =
      let since = put_since w.0.put w.0.bytes in
      let whole : new.put ≡ print J = since.1 ∙ sym (append-nil w.0.put) ∙ w.0.whole in (
        λ y. (J, record { canon = canon; text_is = sym since.0 ∙ sym (match.0 y) ∙ whole }),
        λ h. match.1 (whole ∙ only_text form t I J canon h ∙ sym since.0),
      )

  -- if writing was refused, the text is not canonical
  pub judged_unwritten : (e : Refusal) → WritesCanon matcher_words old new form I (Err e)
      → (new.failed ≡ true → IsNoPrefix new.put new.text) → length t < 2 ^ 63
      → (false ≡ true) ↔ IsCanonOf form t I
  judged_unwritten Write (J, canon, w) apart small =
      let since = put_since w.0.put w.0.bytes in (
        λ y. cc,
        λ h. absurd (apart w.0.failed w.0.left (rw since.1 (w.0.whole ∙ only_text form t I J canon h ∙ sym since.0))),
      )
  judged_unwritten CountTooLarge (J, canon, w) apart small =
      (λ y. cc, λ h. absurd (omega (arith, w.1, print_long J, ap length (only_text form t I J canon h))))
  judged_unwritten _ w apart small = absurd w.2

-- a refusal of reading is the refusal of the judgement
pub refused_text : (form : Form) (t : List ℕ) (e : Refusal) → Outcome t (Err e) → JudgesCanon form t (Err e)
refused_text form t (Text place code) h = h
refused_text form t Memory h = h
refused_text form t _ h = absurd h
