-- What putting a flow on arc lines returns to C.
use Rattle.std.specs.Prelude.{◌≡◌, ◌⊎◌, ℕ, ℤ, List, length, Option, Some}
use Rattle.dn_arc_lines.specs.declared.arc_line.ArcLine.{ArcLine}
use Rattle.dn_flow.specs.State.Spreads.{AreLines, CanSpreadOn, IsCompanion, LacksRoom, Spreads}
use Rattle.dn_instance.specs.State.Helds.{pair_count}
use Rattle.dn_c.specs.State.Outputs.{form_numbered}
use Rattle.dn_c.specs.State.Statuses.{fine, wrong_call}
use Rattle.dn_c.specs.declared.status.Status.{Status}
use Rattle.dn_c.specs.declared.work.Work.{Work}
use Rattle.dn_c.specs.declared.work.Work.TheVariants as Works

-- the flow is none on these lines
abbrev pub not_a_flow : Status
not_a_flow = record { code = 42; place = 0; line = 0 }

-- the lines, if they are those of the instance, get the units of the flow; or no units of them are it; or the call is
-- not for the instance, or has less room than it needs, and the units are as they were
abbrev pub SpreadsHeld : Option Work → ℕ → List ℤ → List ArcLine → ℕ → List ℤ → List ℤ → Status → Type 0
SpreadsHeld (Some (Works.Read held _)) form flow lines shares old new status =
    ((status ≡ fine) × AreLines held.lines lines × Spreads (form_numbered form) held.contents flow lines new)
    ⊎ (((status ≡ not_a_flow)
    × (AreLines held.lines lines → CanSpreadOn (form_numbered form) held.contents flow lines → ⊥))
    ⊎ ((status ≡ wrong_call) × (new ≡ old)
    × (IsCompanion held.contents ⊎ LacksRoom (pair_count held.contents) shares (length lines) (length old))))
SpreadsHeld _ form flow lines shares old new status = (status ≡ wrong_call) × (new ≡ old)
