-- How an opener of texts describes itself (this project's profile).
use Rattle.std.specs.Prelude.{◌≡◌, ◌≢◌, ℕ, List, false, Option, Some, IfSome, codes, if◌then◌else◌}
use Rattle.std.specs.Str.{bytes_eq}
use Rattle.std.specs.declared.io.ErrorKind.{ErrorKind}
use Rattle.std.specs.declared.io.ErrorKind.TheVariants.{OutOfMemory}
use Rattle.dn_host.specs.declared.files.FilesFault.{FilesFault}
use Rattle.dn_host.specs.declared.files.FilesFault.TheVariants as Files

-- the description of an opener of type O
pub record OpenerFacts (O : Type 0) : Type 1 where
  -- the bytes of the file of a name, if they are known
  pub file : O → List ℕ → Option (List ℕ)
  -- the bytes of standard input, if they are known
  pub input : O → Option (List ℕ)
  -- whether opening the file of a name can fail with an error of this kind
  pub Fails : O → List ℕ → ErrorKind → Type 0
  -- whether opening the text of this name once can change the first state of the opener to the second
  pub Opens : O → List ℕ → O → Type 0

-- the bytes behind a name, if they are known: those of standard input for `-`, and otherwise those of the file
abbrev pub behind_of : {O : Type 0} → OpenerFacts O → O → List ℕ → Option (List ℕ)
behind_of facts o name = if bytes_eq name (codes "-") then facts.input o else facts.file o name

-- these bytes, if they are known, are those that remain
abbrev pub Remains : Option (List ℕ) → Option (List ℕ) → Type 0
Remains known remaining = IfSome known (λ b. remaining ≡ Some b)

-- taking the text of a name can fail with this fault: `Memory` always, and `Device` if the name is not `-` and opening
-- its file can fail with an error other than a lack of memory
abbrev pub MayFault : {O : Type 0} → OpenerFacts O → O → List ℕ → FilesFault → Type 0
MayFault facts o name Files.Memory = Unit {0}
MayFault facts o name Files.Device =
    (bytes_eq name (codes "-") ≡ false) × ((kind : ErrorKind) × facts.Fails o name kind × (kind ≢ OutOfMemory))
