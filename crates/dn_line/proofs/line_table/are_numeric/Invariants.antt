use Rattle.std.proofs.Common.{◌≡◌, ℕ, ◌<◌, slice_get, Some}
use Rattle.dn_line.specs.declared.word.Field.TheVariants.{Terminal}
use Rattle.dn_line.proofs.line_table.are_numeric.Given as goal

abbrev pub invariant-loop-field : goal.invariant-loop-field
invariant-loop-field l = record { none : (k : ℕ) → k < l.field-index → slice_get l.fields k ≡ Some Terminal → ⊥ }
