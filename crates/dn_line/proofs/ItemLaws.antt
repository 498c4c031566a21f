-- The row of the words of a line has the item that the words spell.
use Rattle.std.proofs.Common.{◌≡◌, inl, inr, ℤ, List, [], ◌∷◌, ◌<◌, cond, Option, Some, None, Ok, refl, ap, ◌∙◌, arith, to_z, of_z, w64}
use Rattle.std.specs.Int.RustNames.{FitsSigned}
use lib.Signed.{mag}
use Rattle.std.proofs.lemmas.Int.{to_z-of_z}
use Rattle.std.proofs.lemmas.Bool.{cases_Bool}
use Rattle.dn_line.specs.declared.code.Code.{Code}
use Rattle.dn_line.specs.declared.code.Code.TheVariants.{FieldCount}
use Rattle.dn_line.specs.declared.kind.Kind.{Kind}
use Rattle.dn_line.specs.declared.kind.Kind.TheVariants.{Min, Max, Sp, Ss, P2p, Co}
use Rattle.dn_line.specs.declared.line.Head.{Head}
use Rattle.dn_line.specs.declared.line.Head.TheVariants.{Skip}
use Rattle.dn_line.specs.declared.line.Line.{Line}
use Rattle.dn_line.specs.declared.line.Line.TheVariants as Items
use Rattle.dn_line.specs.declared.row.Row.{Row}
use Rattle.dn_line.specs.declared.word.Field.{Field}
use Rattle.dn_line.specs.declared.word.Keyword.{Keyword}
use Rattle.dn_line.specs.declared.word.Keyword.TheVariants as Key
use Rattle.dn_line.specs.declared.word.Word.{Word}
use Rattle.dn_line.specs.Words.{is_skip, first, tail}
use Rattle.dn_line.specs.LineTable.{fields_of, counts, after_name, kind_named}
use Rattle.dn_line.specs.Faults.{first_fault, field_tests, is_p, known_fields}
use Rattle.dn_line.specs.State.Fields.{filled_fields, problem_fields}
use Rattle.dn_line.specs.Reading.{num, letter_of, item, problem, unless, item_of}
use Rattle.dn_line.specs.State.LineReads.{problem_named, head_of}
use Rattle.dn_line.specs.State.RowItems.{RowRead, terminal_number, letter_named, problem_item, filled_row, item_of_row, row_at, fields_at, after_head, item_read, row_read}

-- a number of 64 signed bits passes through a conversion unchanged
pub passed : {r n : ℤ} → mag r < 9223372036854775808 → r ≡ n → to_z w64 (of_z w64 r) ≡ n
passed {r = r} f e = let fits : FitsSigned w64 r = omega arith in to_z-of_z w64 r fits ∙ e

letter_same : (k : Option Keyword) → letter_named (terminal_number k) ≡ letter_of k
letter_same (Some Key.S) = refl
letter_same _ = refl

-- the words fill these fields without a fault
abbrev Faultless : Option (List Field) → List Word → Type 0
Faultless fields ws = first_fault (field_tests (filled_fields fields ws)) ≡ None

-- a fault contradicts that there is none
no_fault : {T : Type 0} → Some FieldCount ≡ None → T
no_fault h = cc

problem_is : (kind : Kind) (ws : List Word) → Faultless (Some (counts kind)) ws
    → problem_item kind (filled_row (counts kind) ws) ≡ problem kind ws
problem_is Min (x ∷ y ∷ []) h = refl
problem_is Min _ h = no_fault h
problem_is Max (x ∷ y ∷ []) h = refl
problem_is Max _ h = no_fault h
problem_is Sp (x ∷ y ∷ []) h = refl
problem_is Sp _ h = no_fault h
problem_is _ (x ∷ []) h = refl
problem_is _ _ h = no_fault h

item_is : (kind : Kind) (key : Keyword) (ws : List Word) → Faultless (fields_of kind key) ws
    → item_of_row (head_of (Some key) None) (Some kind) (row_at (fields_of kind key) ws) ≡ item kind key ws
item_is Min Key.N (x ∷ y ∷ []) h = refl
item_is Min Key.N _ h = no_fault h
item_is Max Key.N (x ∷ y ∷ []) h = ap (λ l. Items.Terminal (num x) l) (letter_same y.keyword)
item_is Max Key.N _ h = no_fault h
item_is Min Key.A (x ∷ y ∷ z ∷ u ∷ v ∷ []) h = refl
item_is Min Key.A _ h = no_fault h
item_is Max Key.A (x ∷ y ∷ z ∷ []) h = refl
item_is Max Key.A _ h = no_fault h
item_is Sp Key.A (x ∷ y ∷ z ∷ []) h = refl
item_is Sp Key.A _ h = no_fault h
item_is Ss Key.S (x ∷ []) h = refl
item_is Ss Key.S _ h = no_fault h
item_is P2p Key.Q (x ∷ y ∷ []) h = refl
item_is P2p Key.Q _ h = no_fault h
item_is Co Key.V (x ∷ y ∷ z ∷ []) h = refl
item_is Co Key.V _ h = no_fault h
item_is _ _ ws h = refl

fields_by : (known : Option Kind) (key : Option Keyword) (named : Option Kind) (ws : List Word)
    → cond (is_p key) (problem_fields named (tail ws)) (filled_fields (known_fields known key) (tail ws))
    ≡ filled_fields (fields_at (head_of key named) known) (after_head (head_of key named) ws)
fields_by (Some Min) (Some Key.P) (Some k) ws = refl
fields_by _ (Some Key.P) (Some k) ws = refl
fields_by _ _ _ ws = refl

spelled_by : (known : Option Kind) (key : Option Keyword) (named : Option Kind) (ws : List Word)
    → Faultless (fields_at (head_of key named) known) (after_head (head_of key named) ws)
    → item_of_row (head_of key named) known
    (row_at (fields_at (head_of key named) known) (after_head (head_of key named) ws))
    ≡ cond (is_p key) (problem_named named (tail ws)) (item_of known key (tail ws))
spelled_by (Some Min) (Some Key.P) (Some k) ws h = problem_is k (after_name k (tail ws)) h
spelled_by _ (Some Key.P) (Some k) ws h = problem_is k (after_name k (tail ws)) h
spelled_by (Some k) (Some Key.N) named ws h = item_is k Key.N (tail ws) h
spelled_by (Some k) (Some Key.A) named ws h = item_is k Key.A (tail ws) h
spelled_by (Some k) (Some Key.S) named ws h = item_is k Key.S (tail ws) h
spelled_by (Some k) (Some Key.Q) named ws h = item_is k Key.Q (tail ws) h
spelled_by (Some k) (Some Key.V) named ws h = item_is k Key.V (tail ws) h
spelled_by _ _ _ ws h = refl

unless_same : {A : Type 0} (f : Option Code) (x y : A) → unless f x ≡ Ok y → y ≡ x
unless_same None x y h = cc
unless_same (Some c) x y h = cc

item_unless : (head : Head) (known : Option Kind) (r : Row) (i : Line) (f : Option Code)
    → (f ≡ None → item_of_row head known r ≡ i) → item_read head known (unless f r) ≡ unless f i
item_unless head known r i None h = ap Ok (h refl)
item_unless head known r i (Some c) h = refl

-- the row of a line has the item that the line spells, or the first fault of its fields
pub row_reads : (known : Option Kind) (head : Head) (ws : List Word) → RowRead known head ws (row_read known head ws)
row_reads known head ws h = elim (cases_Bool (is_skip ws)) [
  | inl s ↦ rw (unless_same None Skip head (rw s at h), s) refl
  | inr s ↦ rw (
    unless_same _ (head_of (first ws) (kind_named ws)) head (rw s at h),
    s,
    fields_by known (first ws) (kind_named ws) ws,
  ) (item_unless _ known _ _ _ (spelled_by known (first ws) (kind_named ws) ws))
]
