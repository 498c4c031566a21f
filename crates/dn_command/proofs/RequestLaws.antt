-- Lemmas on the request that a line of words makes.
use Rattle.std.proofs.Common.{◌≡◌, ◌≢◌, ◌∙◌, List, [], Bool, true, false, true≢false, Option, inl, inr, ap, sym, subst}
use Rattle.clap.specs.Words.{HasKind, IsAmong, Kinds, Row, Text, first_of, first_value, kind_of, rows_of}
use Rattle.clap.specs.declared.error.Error.{Error}
use Rattle.clap.specs.declared.error.kind.ErrorKind.{ErrorKind}
use Rattle.clap.specs.declared.error.kind.ErrorKind.TheVariants.{OutOfMemory}
use Rattle.clap.specs.declared.parser.matches.Found.{Found}
use Rattle.clap.proofs.WalkLemmas.{first_value-rows}
use Rattle.dn_command.specs.Commands.{Asked}
use Rattle.dn_command.specs.Requests.{Answers, subcommand_asked}
use Rattle.dn_command.specs.State.RequestKinds.{AnswersKind}
use Rattle.dn_command.specs.declared.request.Request.{Request}
use Rattle.dn_command.specs.declared.request.Request.TheVariants as requests

-- the first value of a name is the first value of its row
pub value_of_rows : (f : Found) (name : Text) → first_value f name ≡ first_of name (rows_of f)
value_of_rows f name = first_value-rows f name

-- if the words have no fault, the request follows from the subcommand that was read
pub answers_by_matches : {faults : Kinds} {rows asked : Option (Text × List Row)} (r : Request) → faults ≡ []
    → rows ≡ asked → Answers [] (subcommand_asked rows) r → Answers faults (subcommand_asked asked) r
answers_by_matches {rows = rows} {asked = asked} r none is answer =
    subst (λ k. Answers k (subcommand_asked asked) r) (sym none)
    (subst (λ q. Answers [] (subcommand_asked q) r) is answer)

-- a kind of error other than out of memory is among the kinds that the words may have
among : (faults : Kinds) (e : Error) → HasKind faults e → (kind_of e ≢ OutOfMemory) → IsAmong (kind_of e) faults
among faults e (inl memory) other = absurd (other memory)
among faults e (inr some) other = some

-- whether the kind of error is out of memory
abbrev is_memory : ErrorKind → Bool
is_memory OutOfMemory = true
is_memory _ = false

-- the request for an error of a kind is the request for words that may have faults of this kind
pub answers : (faults : Kinds) (asked : Option Asked) (e : Error) (r : Request) → HasKind faults e
    → AnswersKind (kind_of e) r → Answers faults asked r
answers faults asked e (requests.Command command) has h = elim h [ ]
answers faults asked e (requests.Print text) has (inl help) =
    inl (subst (λ k. IsAmong k faults) help
    (among faults e has (λ m. absurd (true≢false (ap is_memory (sym m ∙ help))))))
answers faults asked e (requests.Print text) has (inr (version, is)) =
    inr (
      subst (λ k. IsAmong k faults) version
          (among faults e has (λ m. absurd (true≢false (ap is_memory (sym m ∙ version))))),
      is,
    )
answers faults asked e requests.Bad has h = inl (kind_of e, among faults e has h.2, h.0, h.1)
answers faults asked e requests.Memory has h = tt
