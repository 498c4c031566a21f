-- What a call that reads arc lines does.
use Rattle.std.specs.Prelude.{◌≡◌, ℕ, List, [], ◌++◌, ◌⊎◌, take, drop, length, Option, Some, None}
use Rattle.dn_line.specs.declared.code.Code.{Code}
use Rattle.dn_line.specs.Names.{code_number}
use Rattle.dn_instance.specs.declared.refusal.Refusal.TheVariants.{Memory}
use Rattle.dn_arc_lines.specs.State.ArcLines.{arc_lines, own_fault}
use Rattle.dn_arc_lines.specs.State.Reading.{ArcLinesAt, fault_of}
use Rattle.dn_arc_lines.specs.declared.arc_line.ArcLine.{ArcLine}
use Rattle.dn_arc_lines.specs.declared.arc_lines.ArcLines.{ArcLines}
use Rattle.dn_c.specs.State.Statuses.{fine, wrong_call, refused_with}
use Rattle.dn_c.specs.declared.lines.Lines.{Lines}
use Rattle.dn_c.specs.declared.status.Status.{Status}
use Rattle.dn_c.specs.declared.work.Work.{Work}
use Rattle.dn_c.specs.declared.work.Work.TheVariants as Works

-- the handle is not for the call
abbrev pub no_lines : Lines
no_lines = record { used = 0; count = 0; code = 40; line = 0 }

-- the first complete line of these bytes that has a fault by itself, as a call tells it: its fault and its number
abbrev pub told : ℕ → ℕ → Option (ℕ × Code) → Lines
told used count None = record { used = used; count = count; code = 0; line = 0 }
told used count (Some f) = record { used = used; count = count; code = code_number f.1; line = f.0 }

-- the reader has taken the first bytes of the piece after the text; `out` begins with the arc lines that it had not yet
-- handed out, and what it tells is the first line so far that has a fault by itself; it takes all bytes if there is
-- none and room is left, and none after such a line
abbrev pub GivesLines : ArcLines → List ℕ → ArcLines → List ArcLine → Lines → Type 0
GivesLines r piece r' out result =
    ((t : List ℕ) → ArcLinesAt r t → (let u = t ++ take result.used piece in
    ArcLinesAt r' u × (arc_lines u ≡ arc_lines t ++ take result.count out)
    × (result ≡ told result.used result.count (own_fault u))))
    × (result.code ≡ 0 → (result.used ≡ length piece) ⊎ (result.count ≡ length out))
    × ((code : Code) → fault_of r ≡ Some code → (result.used ≡ 0) × (result.count ≡ 0) × (r' ≡ r))

-- what feeding a piece does to a reader of arc lines; what follows the arc lines in `out` stays; for any other work
-- nothing changes
abbrev pub TakesLines : Work → List ℕ → Work → List ArcLine → List ArcLine → Lines → Type 0
TakesLines (Works.Lines r) piece new old out result =
    (r' : ArcLines) × (new ≡ Works.Lines r') × GivesLines r piece r' out result
    × (drop result.count out ≡ drop result.count old)
TakesLines work piece new old out result = (new ≡ work) × (out ≡ old) × (result ≡ no_lines)

-- the same of what a handle holds, if anything
abbrev pub TakesHeldLines : Option Work → List ℕ → Option Work → List ArcLine → List ArcLine → Lines → Type 0
TakesHeldLines None piece new old out result = (new ≡ None) × (out ≡ old) × (result ≡ no_lines)
TakesHeldLines (Some work) piece new old out result =
    (work' : Work) × (new ≡ Some work') × TakesLines work piece work' old out result

-- the work is a reader of arc lines that was fed no bytes
abbrev pub IsNewLines : Option Work → Type 0
IsNewLines work = (r : ArcLines) × (work ≡ Some (Works.Lines r)) × ArcLinesAt r [] × (fault_of r ≡ None)

-- what making a reader of arc lines in a handle does
abbrev pub BeginsLines : Option Work → Option Work → Status → Type 0
BeginsLines None new status = ((status ≡ fine) × IsNewLines new) ⊎ ((status ≡ refused_with Memory) × (new ≡ None))
BeginsLines (Some work) new status = (status ≡ wrong_call) × (new ≡ Some work)
