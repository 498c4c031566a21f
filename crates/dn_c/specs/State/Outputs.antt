-- What C gets of a work: arcs, items, and a canonical text.
use Rattle.std.specs.Prelude.{◌≡◌, ◌⊎◌, ℕ, cond, nat_eq, List, [], ◌∷◌, take, drop, length, Option, Some, None, Result, Ok, Err, ℤ, ◌^◌}
use Rattle.std.specs.Global.{Vec}
use Rattle.dn_arc_theory.specs.declared.arc.Form.{Form}
use Rattle.dn_arc_theory.specs.declared.arc.Form.TheVariants.{One, Two}
use Rattle.dn_arc_theory.specs.declared.arc.LengthArc.{LengthArc}
use Rattle.dn_arc_theory.specs.declared.arc.CapArc.{CapArc}
use Rattle.dn_arc_theory.specs.declared.arc.CostArc.{CostArc}
use Rattle.dn_bundle.specs.State.Listings.{least_arcs, total_arcs, curve_arcs}
use Rattle.dn_instance.specs.State.Helds.{Contents, Parsed, OfMin, OfMax, OfSp, OfHeld}
use Rattle.dn_instance.specs.declared.refusal.Refusal.{Refusal}
use Rattle.dn_canon.specs.State.ListedArcs.{listed_arcs}
use Rattle.dn_canon.specs.State.Runs.{TextOutcome}
use Rattle.dn_c.specs.State.Items.{left_items}
use Rattle.dn_c.specs.State.Cursors.{cost_at, cap_at, length_at}
use Rattle.dn_c.specs.State.Walks.{CopiesFrom}
use Rattle.dn_c.specs.declared.cursor.Cursor.{Cursor}
use Rattle.dn_table.specs.State.Tables.{CountsBelow}
use Rattle.dn_c.specs.declared.items.Item.{Item}
use Rattle.dn_c.specs.State.Statuses.{fine, wrong_call, refused_with, fine_count, wrong_count}
use Rattle.dn_c.specs.declared.arcs.Arc.{Arc}
use Rattle.dn_c.specs.declared.status.Count.{Count}
use Rattle.dn_c.specs.declared.status.Status.{Status}
use Rattle.dn_c.specs.declared.work.Work.{Work}
use Rattle.dn_c.specs.declared.work.Work.TheVariants as Works

-- the form with this number: 2 is form 2, and any other form 1
abbrev pub form_numbered : ℕ → Form
form_numbered n = cond (nat_eq n 2) Two One

-- the handle is not for the call, and nothing has changed
abbrev pub CopiesNone : Cursor → Cursor → List Arc → List Arc → Count → Type 0
CopiesNone old new old_out out result = (result ≡ wrong_count) × (new ≡ old) × (out ≡ old_out)

-- canonical arcs of a graph in this form are copied from the old cursor on, and the new cursor is behind them; a
-- companion has no arcs, so the handle is not for the call
abbrev pub CopiesGraph : Form → Contents → Cursor → Cursor → List Arc → List Arc → Count → Type 0
CopiesGraph form (OfMin flows table) old new old_out out result =
    CopiesFrom (λ (a : CostArc). a.low ∷ a.cap ∷ a.cost ∷ []) (curve_arcs form) cost_at table old new (length old_out)
    out result
CopiesGraph form (OfMax source sink table) old new old_out out result =
    CopiesFrom (λ (a : CapArc). a.cap ∷ []) total_arcs cap_at table old new (length old_out) out result
CopiesGraph form (OfSp table) old new old_out out result =
    CopiesFrom (λ (a : LengthArc). a.length ∷ []) least_arcs length_at table old new (length old_out) out result
CopiesGraph form _ old new old_out out result = CopiesNone old new old_out out result

-- canonical arcs of the instance of a work are copied from the old cursor on, as many as there is room for, and the new
-- cursor is behind them; for any other work nothing changes
abbrev pub CopiesHeld : Option Work → ℕ → Cursor → Cursor → List Arc → List Arc → Count → Type 0
CopiesHeld (Some (Works.Read held _)) form old new old_out out result =
    CopiesGraph (form_numbered form) held.contents old new old_out out result
CopiesHeld _ form old new old_out out result = CopiesNone old new old_out out result

-- the count of these, if there are fewer than 2^64
abbrev pub count_if : Option ℕ → Count
count_if (Some n) = fine_count n
count_if None = record { count = 0; code = 34 }

-- the number of canonical arcs of a graph in this form, if it is below 2^64; a companion has no arcs, so the handle is
-- not for the call
abbrev pub CountsListed : {B A : Type 0} → (B → List A) → List ((ℤ × ℤ) × B) → Count → Type 0
CountsListed lists table result =
    (count : Option ℕ) × CountsBelow (2 ^ 64) (length (listed_arcs lists table)) count × (result ≡ count_if count)

abbrev pub CountsGraph : Form → Contents → Count → Type 0
CountsGraph form (OfMin flows table) result = CountsListed (curve_arcs form) table result
CountsGraph form (OfMax source sink table) result = CountsListed total_arcs table result
CountsGraph form (OfSp table) result = CountsListed least_arcs table result
CountsGraph form _ result = result ≡ wrong_count

-- the number of canonical arcs of the instance of a work
abbrev pub CountsArcs : Option Work → ℕ → Count → Type 0
CountsArcs (Some (Works.Read held _)) form result = CountsGraph (form_numbered form) held.contents result
CountsArcs _ form result = result ≡ wrong_count

-- n of these are copied, as many as there is room for
abbrev pub Copies : {A : Type 0} → List A → List A → List A → Count → Type 0
Copies all old new result = (result.code ≡ 0) × (take result.count new ≡ take (length old) all)

-- the handle is not for the call, and nothing has changed
abbrev pub IsIdle : {A : Type 0} → List A → List A → Count → Type 0
IsIdle old new result = (result ≡ wrong_count) × (new ≡ old)

-- the bytes of the text from the one at `from`, counted from 0, are copied, and what follows them stays; any other work
-- has none
abbrev pub CopiesText : Option Work → ℕ → List ℕ → List ℕ → Count → Type 0
CopiesText (Some (Works.Text text)) from old new result =
    Copies (drop from text.items) old new result × (drop result.count new ≡ drop result.count old)
CopiesText _ from old new result = IsIdle old new result

-- the canonical text of a parsed instance in this form, or why there is none
abbrev pub HasText : Parsed → Form → Result (Vec ℕ) Refusal → Type 0
HasText held form made = OfHeld held (λ I. TextOutcome (λ (v : Vec ℕ). v.items) form I made)

-- what making a canonical text does to the handle for it, which holds the text if it held nothing before; memory can
-- run out only for an instance
abbrev pub PrintsHeld : Option Work → ℕ → Option Work → Option Work → Status → Type 0
PrintsHeld work form (Some was) new status = (new ≡ Some was) × (status ≡ wrong_call)
PrintsHeld (Some (Works.Read held _)) form None new status =
    ((text : Vec ℕ) × (new ≡ Some (Works.Text text)) × (status ≡ fine) × HasText held (form_numbered form) (Ok text))
    ⊎ ((new ≡ None) × ((e : Refusal) × (status ≡ refused_with e) × HasText held (form_numbered form) (Err e)))
PrintsHeld work form None new status = (new ≡ None) × (status ≡ wrong_call)

-- of the items of the instance that are left after the old cursor, the first are copied, as many as there is room for,
-- and the others are left after the new cursor; any other work has none
abbrev pub CopiesItems : Option Work → Cursor → Cursor → List Item → List Item → Count → Type 0
CopiesItems (Some (Works.Read held _)) old_cursor cursor old new result =
    Copies (left_items held.contents old_cursor) old new result
    × (left_items held.contents cursor ≡ drop result.count (left_items held.contents old_cursor))
CopiesItems _ old_cursor cursor old new result = IsIdle old new result × (cursor ≡ old_cursor)
