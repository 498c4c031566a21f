-- Which texts a run asks the files for (this project's profile).
use Rattle.std.specs.Prelude.{◌≡◌, ◌≢◌, ◌⊎◌, ℕ, List, None, IfSome}
use Rattle.dn_line.specs.Sources.{SourceFacts}
use Rattle.dn_instance.specs.Instances.{Instance}
use Rattle.dn_instance.specs.Texts.{Reads}
use Rattle.dn_instance.specs.declared.refusal.Refusal.{Refusal}
use Rattle.dn_run.specs.Answers.{Answer, Refused}
use Rattle.dn_host.specs.Takings.{AsksOne, FilesFacts, KeepsOthers, TakesBack}
use Rattle.dn_command.specs.Requests.{IsReadByClap}
use Rattle.dn_run.specs.Details.{Detail}
use Rattle.dn_run.specs.Texts.{AskedText}
use Rattle.dn_run.specs.TextSources.{ComesOf, TextSources, text_of}

-- the files of a run: how they and the sources of their texts describe themselves, and the files before and after the
-- run
pub record FilesRun (F T : Type 0) : Type 1 where
  pub facts : FilesFacts F T
  pub source : SourceFacts T
  pub old : F
  pub new : F

-- the files with these descriptions: the first before the run, and the second after it
abbrev pub files_run : {F T : Type 0} → FilesFacts F T → SourceFacts T → F × F → FilesRun F T
files_run facts source files = record { facts = facts; source = source; old = files.0; new = files.1 }

-- the sources of the text of this name that a run asked for, where asking for it and handing it back changed the files
-- from `before` to `after`
abbrev pub sources_asked : {F T : Type 0} → FilesRun F T → F → F → List ℕ → TextSources T
sources_asked {F} files before after name = record {
  Hands = files.facts.Hands before name;
  Backs = λ t. (mid : F) × TakesBack files.facts mid after name t;
  source = files.source;
}

-- the text of this name that a run asked for so. The bytes behind the name are those before the run
abbrev pub text_asked : {F T : Type 0} → FilesRun F T → F → F → List ℕ → AskedText
text_asked files before after name =
    text_of name (files.facts.behind files.old name) (files.facts.fault after name)
    (sources_asked files before after name)

-- what a run has done with the source of the text that it asked for: if the files handed out none, they did not change
-- after that; otherwise the run read this source, and handed it back
pub data GivesBack {F T : Type 0} (facts : FilesFacts F T) (mid new : F) (name : List ℕ) (text : TextSources T)
    : Type 0 where
  unopened : facts.fault mid name ≢ None → new ≡ mid → GivesBack facts mid new name text
  read : (source : T) → ComesOf text source → TakesBack facts mid new name source → GivesBack facts mid new name text

-- the run asked once for the text of this name, which changed the files from `old` to `mid`, and handed back what it
-- was handed out. This did not change what is behind any name, except what is behind `-` if this name is `-`
pub record ReadsOne {F T : Type 0} (facts : FilesFacts F T) (source : SourceFacts T) (old new : F) (name : List ℕ)
    : Type 0 where
  pub mid : F
  pub asks : AsksOne facts old mid name
  pub back : GivesBack facts mid new name (sources_asked (files_run facts source (old, new)) old new name)
  pub keeps : KeepsOthers (facts.behind old) (facts.behind new) name

-- the run asked for one text, which has this name, and `Means` holds of it
pub record OneAsked {F T : Type 0} (files : FilesRun F T) (name : List ℕ) (Means : AskedText → Type 0) : Type 0 where
  pub asks : ReadsOne files.facts files.source files.old files.new name
  pub means : Means (text_asked files files.old files.new name)

-- the files did not change after the first text, and the answer refuses this text by its name
pub record StopsAtFirst {F T : Type 0} (files : FilesRun F T) (mid : F) (name : List ℕ) (answer : Answer)
    : Type 0 where
  pub stays : files.new ≡ mid
  pub refused : (refusal : Refusal) × (answer ≡ Refused name refusal)

-- the left text was handed out, it reads as an instance if the bytes behind its name are known, and the run then asked
-- for the right text
pub record GoesOn {F T : Type 0} (files : FilesRun F T) (mid : F) (left right : List ℕ) : Type 0 where
  pub handed : files.facts.fault mid left ≡ None
  pub read : IfSome (files.facts.behind files.old left) (λ b. (I : Instance) × Reads b I)
  pub asks : ReadsOne files.facts files.source mid files.new right

-- the run asked for the left text first. Then it refused this text and asked for no other, or it went on to the right
-- text as `GoesOn` says. `Means` holds of both texts
pub record TwoAsked {F T : Type 0} (files : FilesRun F T) (left right : List ℕ) (answer : Answer)
    (Means : AskedText → AskedText → Type 0) : Type 0 where
  pub mid : F
  pub first : ReadsOne files.facts files.source files.old mid left
  pub second : StopsAtFirst files mid left answer ⊎ GoesOn files mid left right
  pub means : Means (text_asked files files.old mid left) (text_asked files mid files.new right)

-- what the run did with its files is said as well, and which request its words are
abbrev pub in_full : {F T : Type 0} → FilesRun F T → Detail
in_full files = record {
  OneAsked = OneAsked files;
  TwoAsked = TwoAsked files;
  NoneAsked = files.new ≡ files.old;
  IsRequest = IsReadByClap;
}
