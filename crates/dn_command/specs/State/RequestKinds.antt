-- What a request does for a line of words (this project's profile).
use Rattle.std.specs.Prelude.{◌≡◌, ◌≢◌, ◌⊎◌, ⊤, ℕ, List, None, Some, string_bytes}
use Rattle.clap.specs.declared.error.kind.ErrorKind.{ErrorKind}
use Rattle.clap.specs.declared.error.kind.ErrorKind.TheVariants.{DisplayHelp, DisplayVersion, OutOfMemory}
use Rattle.dn_command.specs.Commands.{Asked, asks, plain_asked}
use Rattle.dn_command.specs.declared.request.Request.{Request}
use Rattle.dn_command.specs.declared.request.Request.TheVariants as requests
use Rattle.dn_command.specs.Requests.{IsReadByClap, version_line}

-- which requests are right for an error of this kind: help, the version, a bad line, or out of memory
abbrev pub AnswersKind : ErrorKind → Request → Type 0
AnswersKind kind (requests.Command command) = ⊥
AnswersKind kind (requests.Print text) =
    (kind ≡ DisplayHelp) ⊎ ((kind ≡ DisplayVersion) × (string_bytes text ≡ version_line))
AnswersKind kind requests.Bad = (kind ≢ DisplayHelp) × (kind ≢ DisplayVersion) × (kind ≢ OutOfMemory)
AnswersKind kind requests.Memory = ⊤

-- the request is a command that asks for this
abbrev pub Requests : Asked → Request → Type 0
Requests asked (requests.Command command) = asks command ≡ asked
Requests asked request = ⊥

-- if the words are a plain command, the request is for it
abbrev pub IsPlainRequest : List (List ℕ) → Request → Type 0
IsPlainRequest words request = (asked : Asked) → plain_asked words ≡ Some asked → Requests asked request

-- if the words are no plain command, `clap` reads them
abbrev pub IsOtherRequest : List (List ℕ) → Request → Type 0
IsOtherRequest words request = plain_asked words ≡ None → IsReadByClap words request

-- the request prints a text
abbrev pub Prints : Request → Type 0
Prints (requests.Print text) = ⊤
Prints request = ⊥

-- the request prints the name and the version of the program
abbrev pub PrintsVersion : Request → Type 0
PrintsVersion (requests.Print text) = string_bytes text ≡ version_line
PrintsVersion request = ⊥
