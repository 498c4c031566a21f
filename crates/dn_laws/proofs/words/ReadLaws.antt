-- Lemmas on the request for a line of words, given what `clap` finds in it.
use Rattle.std.proofs.Common.{◌≡◌, ◌⊎◌, ◌∙◌, ◌&&◌, ◌||◌, not, ℕ, nat_eq, Bool, false, true, true≢false, List, [], ◌∷◌, length, map, Option, Some, unwrap_or, codes, refl, sym, ap, subst, inl, inr, arith}
use Rattle.std.proofs.lemmas.Bool.{cases_Bool}
use Rattle.std.proofs.lemmas.Bool.Decides.{nat_tests}
use Rattle.std.specs.Borrow.{Bor}
use Rattle.clap.specs.Words.{IsAmong, Kinds, Text, fault_of, subcommand_of}
use Rattle.clap.specs.declared.error.kind.ErrorKind.{ErrorKind}
use Rattle.clap.specs.declared.error.kind.ErrorKind.TheVariants.{DisplayHelp, DisplayVersion}
use Rattle.dn_command.specs.Commands.{Asked, is_name}
use Rattle.dn_command.specs.Options.{dnorm_app, form_option_words}
use Rattle.dn_command.specs.Requests.{Answers, IsReadByClap, subcommand_asked}
use Rattle.dn_command.specs.State.RequestKinds.{Prints, PrintsVersion, Requests}
use Rattle.dn_command.specs.declared.request.Request.{Request}
use Rattle.dn_command.specs.declared.request.Request.TheVariants as requests

-- ---- names

not_dash : (t : Bool) → ((t && false) || not t) ≡ true → t ≡ false
not_dash true h = sym h
not_dash false h = refl

dash : (b : ℕ) → nat_eq b 45 ≡ true → b ≡ 45
dash b e = grind (arith, nat_tests)

-- a word that names a text is `-`, or does not begin with `-`
pub name_cases : (P : Text → Type 0) → P (codes "-") → ((b : ℕ) (rest : List ℕ) → nat_eq b 45 ≡ false → P (b ∷ rest))
    → (word : Text) → is_name word ≡ true → P word
name_cases P one other [] h = absurd (true≢false (sym h))
name_cases P one other (b ∷ x ∷ xs) h = other b (x ∷ xs) (not_dash (nat_eq b 45) h)
name_cases P one other (b ∷ []) h = elim (cases_Bool (nat_eq b 45)) [
  | inl e ↦ rw (dash b e) one
  | inr e ↦ other b [] e
]

-- ---- the forms in memory

-- references to the texts `1` and `2`, and to both
abbrev pub form_refs : (p q r : ℕ × ℕ) → Bor (List (Bor Text))
form_refs p q r = record {
  ref_ptr = p;
  now = record { ref_ptr = q; now = codes "1" } ∷ record { ref_ptr = r; now = codes "2" } ∷ [];
}

-- what holds of all references to these texts holds of all forms
forms_cases : (P : Bor (List (Bor Text)) → Type 0) → ((p q r : ℕ × ℕ) → P (form_refs p q r))
    → (forms : Bor (List (Bor Text))) → map (λ s. s.now) forms.now ≡ form_option_words → P forms
forms_cases P h forms e = go forms.now e
  where
    go : (l : List (Bor Text)) → map (λ s. s.now) l ≡ form_option_words
        → P (record { ref_ptr = forms.ref_ptr; now = l })
    go [] e = absurd (omega (arith, ap length e))
    go (a ∷ []) e = absurd (omega (arith, ap length e))
    go (a ∷ b ∷ c ∷ rest) e = absurd (omega (arith, ap length e))
    go (a ∷ b ∷ []) e =
        let first : a.now ≡ codes "1" = cc in
        let second : b.now ≡ codes "2" = cc in
        subst
        (λ (t : Text × Text). P (record {
          ref_ptr = forms.ref_ptr;
          now = record { ref_ptr = a.ref_ptr; now = t.0 } ∷ record { ref_ptr = b.ref_ptr; now = t.1 } ∷ [];
        })) (let both : (codes "1", codes "2") ≡ (a.now, b.now) = cc in both) (h forms.ref_ptr a.ref_ptr b.ref_ptr)

-- ---- lines

-- `clap` finds no fault in the words, and they ask for this
abbrev pub Reads : Bor (List (Bor Text)) → List Text → Asked → Type 0
Reads forms words asked =
    (fault_of (dnorm_app forms) words ≡ []) × (subcommand_asked (subcommand_of (dnorm_app forms) words) ≡ Some asked)

-- the request, if there is no fault
does : (faults : Kinds) (listed : Option Asked) (asked : Asked) (r : Request) → faults ≡ [] → listed ≡ Some asked
    → Answers faults listed r → Requests asked r ⊎ (r ≡ requests.Memory)
does faults listed asked (requests.Command command) none is h = inl (ap (λ o. unwrap_or o asked) (sym h.1 ∙ is))
does faults listed asked (requests.Print text) none is (inl h) = absurd (rw none at h)
does faults listed asked (requests.Print text) none is (inr h) = absurd (rw none at (h.0))
does faults listed asked requests.Bad none is (inl h) = absurd (rw none at (h.1))
does faults listed asked requests.Bad none is (inr h) = cc (h.1)
does faults listed asked requests.Memory none is h = inr refl

-- the request for words that `clap` reads as this, at any address of the forms
pub answered : (words : List Text) (asked : Asked) → ((p q r : ℕ × ℕ) → Reads (form_refs p q r) words asked)
    → (r : Request) → IsReadByClap words r → Requests asked r ⊎ (r ≡ requests.Memory)
answered words asked reads r h =
    let read = forms_cases (λ (f : Bor (List (Bor Text))). Reads f words asked) reads h.forms h.are_forms in
    does _ _ asked r read.0 read.1 h.answer

-- whether a fault is a call for help or for the version
abbrev is_call : ErrorKind → Bool
is_call DisplayHelp = true
is_call DisplayVersion = true
is_call _ = false

abbrev is_version : ErrorKind → Bool
is_version DisplayVersion = true
is_version _ = false

-- none of the faults is a call
abbrev pub NoCalls : Kinds → Type 0
NoCalls [] = Unit {0}
NoCalls (k ∷ ks) = (is_call k ≡ false) × NoCalls ks

no_call : (faults : Kinds) (k : ErrorKind) → NoCalls faults → IsAmong k faults → is_call k ≡ false
no_call [] k none h = elim h [ ]
no_call (x ∷ xs) k none (inl e) = ap is_call e ∙ none.0
no_call (x ∷ xs) k none (inr h) = no_call xs k none.1 h

mistaken_by : (listed : Option Asked) (k : ErrorKind) (ks : Kinds) (r : Request) → NoCalls (k ∷ ks)
    → Answers (k ∷ ks) listed r → (r ≡ requests.Bad) ⊎ (r ≡ requests.Memory)
mistaken_by listed k ks (requests.Command command) none h = cc (h.0)
mistaken_by listed k ks (requests.Print text) none (inl h) = absurd (true≢false (no_call (k ∷ ks) DisplayHelp none h))
mistaken_by listed k ks (requests.Print text) none (inr h) =
    absurd (true≢false (no_call (k ∷ ks) DisplayVersion none h.0))
mistaken_by listed k ks requests.Bad none h = inl refl
mistaken_by listed k ks requests.Memory none h = inr refl

helped_by : (listed : Option Asked) (r : Request) → Answers (DisplayHelp ∷ []) listed r → Prints r ⊎
    (r ≡ requests.Memory)
helped_by listed (requests.Command command) h = cc (h.0)
helped_by listed (requests.Print text) h = inl tt
helped_by listed requests.Bad (inl (k, (inl e), no_help, no_version)) = absurd (no_help e)
helped_by listed requests.Bad (inl (k, (inr h), no_help, no_version)) = absurd h
helped_by listed requests.Bad (inr h) = cc (h.0)
helped_by listed requests.Memory h = inr refl

versioned_by : (listed : Option Asked) (r : Request) → Answers (DisplayVersion ∷ []) listed r
    → PrintsVersion r ⊎ (r ≡ requests.Memory)
versioned_by listed (requests.Command command) h = cc (h.0)
versioned_by listed (requests.Print text) (inl (inl e)) = absurd (true≢false (ap is_version (sym e)))
versioned_by listed (requests.Print text) (inl (inr h)) = absurd h
versioned_by listed (requests.Print text) (inr h) = inl h.1
versioned_by listed requests.Bad (inl (k, (inl e), no_help, no_version)) = absurd (no_version e)
versioned_by listed requests.Bad (inl (k, (inr h), no_help, no_version)) = absurd h
versioned_by listed requests.Bad (inr h) = cc (h.0)
versioned_by listed requests.Memory h = inr refl

-- the requests for words in which `clap` finds these faults
found : (words : List Text) (same : Kinds) (Q : Request → Type 0)
    → ((p q r : ℕ × ℕ) → fault_of (dnorm_app (form_refs p q r)) words ≡ same)
    → ((listed : Option Asked) (r : Request) → Answers same listed r → Q r) → (r : Request) → IsReadByClap words r → Q r
found words same Q faults by r h =
    by _ r (rw (forms_cases (λ f. fault_of (dnorm_app f) words ≡ same) faults h.forms h.are_forms) at (h.answer))

pub mistaken : (words : List Text) (k : ErrorKind) (ks : Kinds)
    → ((p q r : ℕ × ℕ) → fault_of (dnorm_app (form_refs p q r)) words ≡ k ∷ ks) → NoCalls (k ∷ ks)
    → (r : Request) → IsReadByClap words r → (r ≡ requests.Bad) ⊎ (r ≡ requests.Memory)
mistaken words k ks faults none =
    found words (k ∷ ks) (λ r. (r ≡ requests.Bad) ⊎ (r ≡ requests.Memory)) faults
    (λ listed r h. mistaken_by listed k ks r none h)

pub helped : (words : List Text)
    → ((p q r : ℕ × ℕ) → fault_of (dnorm_app (form_refs p q r)) words ≡ DisplayHelp ∷ [])
    → (r : Request) → IsReadByClap words r → Prints r ⊎ (r ≡ requests.Memory)
helped words faults = found words _ (λ r. Prints r ⊎ (r ≡ requests.Memory)) faults helped_by

pub versioned : (words : List Text)
    → ((p q r : ℕ × ℕ) → fault_of (dnorm_app (form_refs p q r)) words ≡ DisplayVersion ∷ [])
    → (r : Request) → IsReadByClap words r → PrintsVersion r ⊎ (r ≡ requests.Memory)
versioned words faults = found words _ (λ r. PrintsVersion r ⊎ (r ≡ requests.Memory)) faults versioned_by
