-- How files describe themselves, and what asking them for a text does (this project's profile).
use Rattle.std.specs.Prelude.{◌≡◌, ◌≢◌, ℕ, List, Option, IfSome, codes}
use Rattle.dn_host.specs.declared.files.FilesFault.{FilesFault}

-- the description of files of type F, which hand out texts of type T
pub record FilesFacts (F T : Type 0) : Type 1 where
  -- the bytes behind a name, if they are known
  pub behind : F → List ℕ → Option (List ℕ)
  -- why the files did not hand out the text of a name when they were last asked for it, or `None` if they did
  pub fault : F → List ℕ → Option FilesFault
  -- whether asking for the text of this name can fail with this fault
  pub Faults : F → List ℕ → FilesFault → Type 0
  -- whether asking once for the text of this name can change the first state of the files to the second
  pub Asks : F → List ℕ → F → Type 0
  -- whether asking for the text of this name can hand out this source
  pub Hands : F → List ℕ → T → Type 0
  -- whether taking back this source of the text of this name can change the first state of the files to the second
  pub Backs : F → List ℕ → T → F → Type 0

-- taking the text of `name` did not change what is behind any name, except what is behind `-` if `name` is `-`
abbrev pub KeepsOthers : (List ℕ → Option (List ℕ)) → (List ℕ → Option (List ℕ)) → List ℕ → Type 0
KeepsOthers before after name = (other : List ℕ) → (name ≡ codes "-" → other ≢ codes "-") → after other ≡ before other

module _ {F T : Type 0} (files : FilesFacts F T) (old new : F) (name : List ℕ) where
  -- the files were asked once, for the text of this name. If they have a fault for it afterwards, asking could fail
  -- with this fault. Asking did not change what is behind any name, except what is behind `-` if this name is `-`
  pub record AsksOne : Type 0 where
    pub asks : files.Asks old name new
    pub may : IfSome (files.fault new name) (files.Faults old name)
    pub keeps : KeepsOthers (files.behind old) (files.behind new) name

  -- what taking back this source of the text of `name` does. It changes neither what is behind any name nor the fault
  -- for any name
  pub record TakesBack (t : T) : Type 0 where
    pub backs : files.Backs old name t new
    pub behind : (other : List ℕ) → files.behind new other ≡ files.behind old other
    pub faults : (other : List ℕ) → files.fault new other ≡ files.fault old other
