-- What taking a text from files does.
use Rattle.std.specs.Prelude.{◌≡◌, ℕ, List, Some, None, false, Result, IfOk, IfSome, OnOk}
use Rattle.std.specs.Result.{IfErr}
use Rattle.dn_line.specs.Sources.{SourceFacts}
use Rattle.dn_host.specs.Takings.{AsksOne, FilesFacts}
use Rattle.dn_host.specs.declared.files.FilesFault.{FilesFault}

-- what taking the text of this name does: the files were asked once for it. On `Ok` they hand out a source for the name
-- that gives what is behind it, if this is known, and has not failed, and afterwards they have no fault for the name.
-- On a fault, afterwards they have this fault for the name
pub record Takes {F T : Type 0} (files : FilesFacts F T) (old new : F) (name : List ℕ) (source : SourceFacts T)
    (result : Result T FilesFault) : Type 0 where
  pub text : IfOk result (λ t. IfSome (files.behind old name) (λ b. source.gives t ≡ Some b))
  pub fine : IfOk result (λ t. source.has_failed t ≡ false)
  pub hands : IfOk result (files.Hands old name)
  pub ok : OnOk result (files.fault new name ≡ None)
  pub err : IfErr result (λ fault. files.fault new name ≡ Some fault)
  pub asked : AsksOne files old new name
