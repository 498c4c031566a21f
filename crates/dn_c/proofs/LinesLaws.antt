-- What a call that reads arc lines tells.
use Rattle.std.proofs.Common.{◌≡◌, ℕ, List, ◌++◌, ◌⊎◌, take, length, Option, Some, None, refl, ap, arith}
use Rattle.dn_line.specs.declared.code.Code.{Code}
use Rattle.dn_line.specs.declared.code.Code.TheVariants as Codes
use Rattle.dn_line.specs.Names.{code_number}
use Rattle.dn_arc_lines.specs.State.ArcLines.{arc_lines, own_fault}
use Rattle.dn_arc_lines.specs.State.Reading.{ArcLinesAt, fault_of}
use Rattle.dn_arc_lines.specs.declared.arc_line.ArcLine.{ArcLine}
use Rattle.dn_arc_lines.specs.declared.arc_lines.ArcLines.{ArcLines}
use Rattle.dn_c.specs.State.Lines.{GivesLines, told}
use Rattle.dn_c.specs.declared.lines.Lines.{Lines}

no_zero : (code : Code) → code_number code ≡ 0 → ⊥
no_zero Codes.BadLine h = omega (arith, h)
no_zero Codes.EarlyLine h = omega (arith, h)
no_zero Codes.SecondProblem h = omega (arith, h)
no_zero Codes.UnknownProblem h = omega (arith, h)
no_zero Codes.WrongLine h = omega (arith, h)
no_zero Codes.LateNode h = omega (arith, h)
no_zero Codes.TooManyLines h = omega (arith, h)
no_zero Codes.FieldCount h = omega (arith, h)
no_zero Codes.NotANumber h = omega (arith, h)
no_zero Codes.OutOfRange h = omega (arith, h)
no_zero Codes.Negative h = omega (arith, h)
no_zero Codes.BadTerminal h = omega (arith, h)
no_zero Codes.NodeOutOfRange h = omega (arith, h)
no_zero Codes.RepeatedNode h = omega (arith, h)
no_zero Codes.SameTerminal h = omega (arith, h)
no_zero Codes.LowAboveCap h = omega (arith, h)
no_zero Codes.SumTooLarge h = omega (arith, h)
no_zero Codes.NoProblem h = omega (arith, h)
no_zero Codes.MissingTerminal h = omega (arith, h)
no_zero Codes.TooFewLines h = omega (arith, h)
no_zero Codes.TooLong h = omega (arith, h)

not_stopped : (used count : ℕ) (stop : Option (ℕ × Code)) → (told used count stop).code ≡ 0 → stop ≡ None
not_stopped used count None h = refl
not_stopped used count (Some f) h = absurd (no_zero f.1 h)

-- the count that a call tells
pub told_count : (used count : ℕ) (stop : Option (ℕ × Code)) → (told used count stop).count ≡ count
told_count used count None = refl
told_count used count (Some f) = refl

pub gives : (r r' : ArcLines) (piece : List ℕ) (out : List ArcLine) (used count : ℕ) (stop : Option (ℕ × Code))
    (result : Lines) → result ≡ told used count stop
    → ((t : List ℕ) → ArcLinesAt r t → ArcLinesAt r' (t ++ take used piece))
    → ((t : List ℕ) → ArcLinesAt r t → arc_lines (t ++ take used piece) ≡ arc_lines t ++ take count out)
    → ((code : Code) → fault_of r ≡ Some code → (used ≡ 0) × (count ≡ 0) × (r' ≡ r))
    → (fault_of r' ≡ None → (used ≡ length piece) ⊎ (count ≡ length out))
    → ((t : List ℕ) → ArcLinesAt r' t → stop ≡ own_fault t) → (stop ≡ None → fault_of r' ≡ None)
    → GivesLines r piece r' out result
gives r r' piece out used count None result is stands rows again all first none = rw is (
  λ t at. (stands t at, rows t at, ap (told used count) (first (t ++ take used piece) (stands t at))),
  λ e. all (none refl),
  again,
)
gives r r' piece out used count (Some f) result is stands rows again all first none = rw is (
  λ t at. (stands t at, rows t at, ap (told used count) (first (t ++ take used piece) (stands t at))),
  λ e. all (none (not_stopped used count (Some f) e)),
  again,
)
