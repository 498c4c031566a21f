-- The numbers and names of refusals (this project's profile).
use Rattle.std.specs.Prelude.{ℕ, List, codes}
use Rattle.dn_line.specs.Names.{code_name, code_number}
use Rattle.dn_instance.specs.declared.refusal.Refusal.{Refusal}
use Rattle.dn_instance.specs.declared.refusal.Refusal.TheVariants.{Text, Memory, Read, Endless, Write, CountTooLarge}

-- the number of a refusal
abbrev pub refusal_number : Refusal → ℕ
refusal_number (Text place code) = code_number code
refusal_number Memory = 30
refusal_number Read = 31
refusal_number Endless = 32
refusal_number Write = 33
refusal_number CountTooLarge = 34

-- the name of a refusal
abbrev pub refusal_name : Refusal → List ℕ
refusal_name (Text place code) = code_name code
refusal_name Memory = codes "Memory"
refusal_name Read = codes "Read"
refusal_name Endless = codes "Endless"
refusal_name Write = codes "Write"
refusal_name CountTooLarge = codes "CountTooLarge"
