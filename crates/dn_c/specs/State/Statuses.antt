-- What a call returns to C.
use Rattle.std.specs.Prelude.{ℕ, Result, Ok, Err}
use Rattle.dn_instance.specs.declared.refusal.Place.TheVariants as Places
use Rattle.dn_instance.specs.declared.refusal.Refusal.{Refusal}
use Rattle.dn_instance.specs.declared.refusal.Refusal.TheVariants.{Text}
use Rattle.dn_instance.specs.Refusals.{refusal_number}
use Rattle.dn_c.specs.declared.status.Status.{Status}
use Rattle.dn_c.specs.declared.status.Count.{Count}

-- the call did what its name says
abbrev pub fine : Status
fine = record { code = 0; place = 0; line = 0 }

-- the handle is not for this call, and nothing changed
abbrev pub wrong_call : Status
wrong_call = record { code = 40; place = 0; line = 0 }

-- the place of a refusal: 1 for a line, 2 for the end of the text, and 0 for neither
abbrev pub place_number : Refusal → ℕ
place_number (Text (Places.Line n) code) = 1
place_number (Text Places.End code) = 2
place_number _ = 0

-- the line of a refusal, or 0
abbrev pub line_of : Refusal → ℕ
line_of (Text (Places.Line n) code) = n
line_of _ = 0

-- the status of a refusal: its number and its place
abbrev pub refused_with : Refusal → Status
refused_with e = record { code = refusal_number e; place = place_number e; line = line_of e }

-- the status of what a call of the library returned
abbrev pub answer_status : {A : Type 0} → Result A Refusal → Status
answer_status (Ok x) = fine
answer_status (Err e) = refused_with e

-- so many were copied or counted
abbrev pub fine_count : ℕ → Count
fine_count n = record { count = n; code = 0 }

-- the handle is not for this call, and nothing changed
abbrev pub wrong_count : Count
wrong_count = record { count = 0; code = 40 }
