-- What must be kept of the arcs of one ordered pair, for each kind of arcs.
use Rattle.std.specs.Prelude.{ℕ, List}
use Rattle.dn_arc_theory.specs.Entries.{SpreadsForced, length_entries, cap_entries, cost_entries}
use Rattle.dn_arc_theory.specs.declared.arc.LengthArc.{LengthArc}
use Rattle.dn_arc_theory.specs.declared.arc.CapArc.{CapArc}
use Rattle.dn_arc_theory.specs.declared.arc.CostArc.{CostArc}

-- what must be kept of the arcs of one ordered pair
pub record ArcSizes (Arc : Type 0) : Type 1 where
  -- how many entries the arcs make
  pub entries : List Arc → ℕ
  -- one more arc needs memory, even if it makes no entry
  pub Spreads : List Arc → Arc → Type 0

-- `sp`
abbrev pub length_sizes : ArcSizes LengthArc
length_sizes = record { entries = length_entries; Spreads = λ arcs a. ⊥ }

-- `max`
abbrev pub cap_sizes : ArcSizes CapArc
cap_sizes = record { entries = cap_entries; Spreads = λ arcs a. ⊥ }

-- `min`
abbrev pub cost_sizes : ArcSizes CostArc
cost_sizes = record { entries = cost_entries; Spreads = SpreadsForced }
