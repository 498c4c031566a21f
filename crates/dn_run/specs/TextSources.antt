-- What a run did with the source of a text, if the text is refused for a reason that is not in its bytes (this
-- project's profile).
use Rattle.std.specs.Prelude.{◌≡◌, ℕ, ◌<◌, ◌≤◌, ◌^◌, List, ◌++◌, length, Option, Some, IsTrue}
use Rattle.dn_line.specs.Sources.{SourceFacts}
use Rattle.dn_instance.specs.Readers.{ended}
use Rattle.dn_instance.specs.SourceReads.{CleanSoFar, GaveLast, PulledWhileClean, RanOut, after_pulls}
use Rattle.dn_instance.specs.Texts.{IsClean}
use Rattle.dn_host.specs.declared.files.FilesFault.{FilesFault}
use Rattle.dn_run.specs.Texts.{AskedText}

-- the sources of a text that a run asked for: which the files can hand out for it, which they can have taken back, and
-- how they describe themselves
pub record TextSources (T : Type 0) : Type 1 where
  pub Hands : T → Type 0
  pub Backs : T → Type 0
  pub source : SourceFacts T

-- this is a source that was handed out for the text, as the pulls of reading left it, and that was then taken back
pub record ComesOf {T : Type 0} (text : TextSources T) (source : T) : Type 0 where
  pub first : T
  pub handed : text.Hands first
  pub pulled : PulledWhileClean text.source first source
  pub backs : text.Backs source

-- a source that was handed out for this text has failed, as the pulls of reading left it
pub record HasFailed {T : Type 0} (text : TextSources T) : Type 0 where
  pub source : T
  pub comes : ComesOf text source
  pub failed : IsTrue (text.source.has_failed source)

-- the source of the text b has failed. It gave a prefix of b, and no line that ends with an LF in that prefix has a
-- fault
abbrev pub IsUnread : {T : Type 0} → TextSources T → List ℕ → Type 0
IsUnread text b = (f : HasFailed text) × CleanSoFar b (text.source.gives f.source)

-- the source of the text b gave a prefix of b of 2 ^ 40 bytes or more, and no line that ends with an LF in that prefix
-- has a fault
pub record IsEndless {T : Type 0} (text : TextSources T) (b : List ℕ) : Type 0 where
  pub source : T
  pub comes : ComesOf text source
  pub clean : CleanSoFar b (text.source.gives source)
  pub many : 2 ^ 40 ≤ length clean.given

-- memory ran out at a line of the text b that ends in the last piece that the source gave, or at a last line without an
-- LF. The line spells an item that needs memory, and neither it nor an earlier one has a fault
pub record IsOutOfMemory {T : Type 0} (text : TextSources T) (b : List ℕ) : Type 0 where
  pub source : T
  pub comes : ComesOf text source
  pub ran_out : RanOut b (after_pulls text.source comes.first source)

-- memory ran out for the copy of the last piece that the source gave of the text b, of 1 to 2^12 bytes; the source
-- still gives the rest. No line that ends with an LF before that piece has a fault
pub record LacksCopy {T : Type 0} (text : TextSources T) (b : List ℕ) : Type 0 where
  pub source : T
  pub comes : ComesOf text source
  pub given : List ℕ
  pub piece : List ℕ
  pub rest : List ℕ
  pub whole : b ≡ given ++ (piece ++ rest)
  pub rest_is : text.source.gives source ≡ Some rest
  pub pulled : GaveLast text.source comes.first source given piece
  pub some : 0 < length piece
  pub short : length piece ≤ 2 ^ 12
  pub clean : IsClean (ended given)

-- the text with this name, these bytes behind the name, this fault and these sources
abbrev pub text_of : {T : Type 0} → List ℕ → Option (List ℕ) → Option FilesFault → TextSources T → AskedText
text_of name behind fault sources = record {
  name = name;
  behind = behind;
  fault = fault;
  HasFailed = HasFailed sources;
  IsUnread = IsUnread sources;
  IsEndless = IsEndless sources;
  IsOutOfMemory = IsOutOfMemory sources;
  LacksCopy = LacksCopy sources;
}
