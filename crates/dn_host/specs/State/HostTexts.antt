-- Which bytes remain of a text of the host (this project's profile).
use Rattle.std.specs.Prelude.{ℕ, List, Option}
use Rattle.dn_host.specs.declared.host.HostText.{HostText}
use Rattle.dn_host.specs.declared.host.HostText.TheVariants.{Input, File}

-- the bytes that remain of a text of the host are those that remain of standard input, or of the file
abbrev pub text_remains : {I F : Type 0} → (I → Option (List ℕ)) → (F → Option (List ℕ)) → HostText I F
    → Option (List ℕ)
text_remains input file (Input i) = input i
text_remains input file (File f) = file f
