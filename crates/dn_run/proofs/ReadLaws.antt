-- Lemmas on what reading a text that a run asks for returns.
use Rattle.dn_instance.specs.State.Helds.{Parsed}
use Rattle.std.proofs.Common.{◌≡◌, ℕ, List, [], Option, Some, None, Result, Ok, Err, IsTrue, OnOk, IfErr, IfOk, IfSome, IsErrOf, refl, inl, inr, append-nil}
use Rattle.std.specs.Io.KnownBytes.{IsAtEnd}
use Rattle.dn_instance.specs.SourceReads.{AfterPulls, IsOfReading, after_pulls, PulledWhileClean}
use Rattle.dn_instance.specs.State.SourceResults.{CopyOutcome, Copied, SourceOutcome, HoldsCopied, HoldsSome}
use Rattle.dn_instance.specs.declared.refusal.Refusal.{Refusal}
use Rattle.dn_instance.specs.declared.refusal.Refusal.TheVariants.{Text, Memory, Read, Endless}
use Rattle.dn_instance.proofs.SourceLaws.{ran_out}
use Rattle.dn_host.specs.declared.files.FilesFault.{FilesFault}
use Rattle.dn_run.specs.Texts.{AskedText, IsRefusedCopy, IsRefusedText}
use Rattle.dn_run.specs.TextSources.{ComesOf, TextSources, text_of}
use Rattle.dn_run.specs.State.TextReads.{IsRead, ReadsAs}
use Rattle.dn_run.proofs.OutcomeLaws.{by_behind}

-- a source that was handed out, pulled while it was clean and taken back comes of the text
abbrev pub came : {T : Type 0} {sources : TextSources T} {source : T} (first : T) → sources.Hands first
    → PulledWhileClean sources.source first source → sources.Backs source → ComesOf sources source
came first h p b = record { first = first; handed = h; pulled = p; backs = b }

module _ {T : Type 0} (name : List ℕ) (behind : Option (List ℕ)) (fault : Option FilesFault)
    (sources : TextSources T) where
  abbrev text : AskedText
  text = text_of name behind fault sources

  module _ (source : T) (comes : ComesOf sources source) (fine : fault ≡ None) where
    abbrev pub left : AfterPulls
    left = after_pulls sources.source comes.first source

    reads_as : (b : List ℕ) (r : Result Parsed Refusal) → SourceOutcome b left r
        → (IsErrOf r Read → IsTrue (sources.source.has_failed source)) → ReadsAs (IsRefusedText text) b r
    reads_as b (Ok held) h read = h.0
    reads_as b (Err (Text place code)) h read = h.0
    reads_as b (Err Memory) h read = record { source = source; comes = comes; ran_out = ran_out b left h }
    reads_as b (Err Read) h read = (record { source = source; comes = comes; failed = read refl }, h)
    reads_as b (Err Endless) (c, many) read = record { source = source; comes = comes; clean = c; many = many }
    reads_as b (Err _) h read = h

    -- reading the source that was handed out returns what `IsRead` says
    pub handed_reads : (given : Option (List ℕ)) (r : Result Parsed Refusal) → IfSome behind (λ b. given ≡ Some b)
        → IfSome given (λ b. SourceOutcome b left r)
        → (IsErrOf r Read → IsTrue (sources.source.has_failed source)) → IfOk r HoldsSome → IfErr r IsOfReading
        → IsRead (IsRefusedText text) text r
    handed_reads given r e h read held refusal = record {
      not_handed = rw fine tt;
      failed = λ _ is. record { source = source; comes = comes; failed = read is };
      handed = λ _. by_behind behind (λ b known (is : given ≡ Some b). reads_as b r (rw is at h) read) e;
      held = held;
      refusal = refusal;
    }

    copies_as : (b copy : List ℕ) (r : Result Parsed Refusal) → CopyOutcome b left [] copy r
        → (IsErrOf r Read → IsTrue (sources.source.has_failed source)) → ReadsAs (IsRefusedCopy text) b r
    copies_as b copy (Ok held) h read = h.0.0
    copies_as b copy (Err (Text place code)) h read = h.0.0
    copies_as b copy (Err Memory) (inl h) read =
        inl (record { source = source; comes = comes; ran_out = ran_out b left h.0 })
    copies_as b copy (Err Memory) (inr l) read =
        inr (record {
          source = source;
          comes = comes;
          given = l.given;
          piece = l.piece;
          rest = l.rest;
          whole = l.whole;
          rest_is = l.rest_is;
          pulled = l.pulled;
          some = l.some;
          short = l.short;
          clean = l.clean;
        })
    copies_as b copy (Err Read) h read = (record { source = source; comes = comes; failed = read refl }, h.0)
    copies_as b copy (Err Endless) ((c, many), copied) read =
        record { source = source; comes = comes; clean = c; many = many }
    copies_as b copy (Err _) h read = h.0

    pub handed_copies : (given : Option (List ℕ)) (old copy : List ℕ) (r : Result Parsed Refusal) → old ≡ []
        → IfSome behind (λ b. given ≡ Some b) → IfSome given (λ b. CopyOutcome b left old copy r)
        → (IsErrOf r Read → IsTrue (sources.source.has_failed source)) → IfOk r (HoldsCopied old copy)
        → IfErr r IsOfReading
        → IsRead (IsRefusedCopy text) text r
    handed_copies given old copy r empty e h read held refusal = record {
      not_handed = rw fine tt;
      failed = λ _ is. record { source = source; comes = comes; failed = read is };
      handed = λ _. by_behind behind
          (λ b known (is : given ≡ Some b). copies_as b copy r (rw (is, empty) at h) read) e;
      held = held_of r held;
      refusal = refusal;
    }
      where
        held_of : (r : Result Parsed Refusal) → IfOk r (HoldsCopied old copy) → IfOk r HoldsSome
        held_of (Ok held) (t, o, same) = (t, o)
        held_of (Err e) h = tt

-- if nothing is left of the text, the copy is the whole text
whole_copy : (b copy : List ℕ) (new : Option (List ℕ)) → IsAtEnd new → Copied b new [] copy → copy ≡ b
whole_copy b copy (Some rest) end c =
    let none : c.rest ≡ [] = cc (c.rest_is) in
    rw (c.whole, none, append-nil) c.copy
whole_copy b copy None end c = cc (c.rest_is)

-- if a source that gave what is behind a name was read and copied, the copy is what is behind the name
pub handed_copy : (new : AfterPulls) (given behind : Option (List ℕ)) (old copy : List ℕ) (r : Result Parsed Refusal)
    → old ≡ [] → IfSome behind (λ b. given ≡ Some b) → IfSome given (λ b. CopyOutcome b new old copy r)
    → IfSome behind (λ b. OnOk r (copy ≡ b))
handed_copy new given behind old copy r empty e h =
    by_behind behind (λ b known (is : given ≡ Some b). by_result b r (rw (is, empty) at h)) e
  where
    by_result : (b : List ℕ) (r : Result Parsed Refusal) → CopyOutcome b new [] copy r → OnOk r (copy ≡ b)
    by_result b (Ok held) h = whole_copy b copy new.gives h.0.1 h.1
    by_result b (Err e) h = tt
