-- The refusal of a line.
use Rattle.std.specs.Prelude.{ℕ}
use Rattle.dn_instance.specs.declared.refusal.ItemFault.{ItemFault}
use Rattle.dn_instance.specs.declared.refusal.ItemFault.TheVariants as Faults
use Rattle.dn_instance.specs.declared.refusal.Place.TheVariants as Places
use Rattle.dn_instance.specs.declared.refusal.Refusal.{Refusal}
use Rattle.dn_instance.specs.declared.refusal.Refusal.TheVariants.{Text, Memory}

-- the refusal for this fault of the line with this number
abbrev pub refused_at : ℕ → ItemFault → Refusal
refused_at number (Faults.Text code) = Text (Places.Line number) code
refused_at number Faults.Memory = Memory
