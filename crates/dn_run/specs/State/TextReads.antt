-- What reading a text that a run asks for returns.
use Rattle.std.specs.Prelude.{◌≡◌, ℕ, List, [], None, Result, Ok, Err, OnOk, IsErrOf, IfErr, IfOk, IfSome}
use Rattle.dn_instance.specs.State.SourceResults.{HoldsCopied, HoldsSome}
use Rattle.dn_instance.specs.State.Helds.{Parsed, IsHeld}
use Rattle.dn_instance.specs.Instances.{Instance}
use Rattle.dn_instance.specs.SourceReads.{IsOfReading}
use Rattle.dn_instance.specs.Texts.{Reads}
use Rattle.dn_instance.specs.declared.refusal.Refusal.{Refusal}
use Rattle.dn_instance.specs.declared.refusal.Refusal.TheVariants.{Read}
use Rattle.dn_run.specs.Answers.{Refused}
use Rattle.dn_run.specs.State.Endings.{stopped}
use Rattle.dn_run.specs.declared.stop.Stop.{Stop}
use Rattle.dn_run.specs.Texts.{AskedText, IsRefusedCopy, unopened}

-- what reading the text b returns: a parsed instance that represents the instance that b reads as, or a reason to
-- refuse b
abbrev pub ReadsAs : (List ℕ → Refusal → Type 0) → List ℕ → Result Parsed Refusal → Type 0
ReadsAs Refuses b (Ok held) = (I : Instance) × Reads b I × IsHeld held I
ReadsAs Refuses b (Err refusal) = Refuses b refusal

-- what reading a text by its name returns. If the files did not hand it out, the result is the refusal for that. If
-- they handed it out and the result is `Read`, its source has failed. If they handed it out and the bytes behind its
-- name are known, the result is one of reading these bytes. In each case a parsed instance represents an instance that
-- some text reads as, and a refusal is one of reading
pub record IsRead (Refuses : List ℕ → Refusal → Type 0) (text : AskedText) (result : Result Parsed Refusal)
    : Type 0 where
  pub not_handed : IfSome text.fault (λ fault. result ≡ Err (unopened fault))
  pub failed : text.fault ≡ None → IsErrOf result Read → text.HasFailed
  pub handed : text.fault ≡ None → IfSome text.behind (λ b. ReadsAs Refuses b result)
  pub held : IfOk result HoldsSome
  pub refusal : IfErr result IsOfReading

-- if the text was handed out and read, and the bytes behind its name are known, the copy is these bytes
abbrev pub IsCopy : AskedText → List ℕ → Result Parsed Refusal → Type 0
IsCopy text copy result = text.fault ≡ None → IfSome text.behind (λ b. OnOk result (copy ≡ b))

-- what reading and copying a text by its name returns, and that the copy is the text
pub record IsCopied (text : AskedText) (copy : List ℕ) (result : Result Parsed Refusal) : Type 0 where
  pub read : IsRead (IsRefusedCopy text) text result
  pub same : IsCopy text copy result
  pub copied : IfOk result (HoldsCopied [] copy)

-- `Is` holds of the result of reading a text; if it is refused, the command stops with its name and this refusal
abbrev pub StopsAs : List ℕ → (Result Parsed Refusal → Type 0) → Result Parsed Stop → Type 0
StopsAs name Is (Ok held) = Is (Ok held)
StopsAs name Is (Err stop) = (refusal : Refusal) × (stopped stop ≡ Refused name refusal) × Is (Err refusal)
