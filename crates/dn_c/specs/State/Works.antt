-- What a handle holds, and what each call does to it.
use Rattle.std.specs.Prelude.{◌≡◌, ℕ, List, [], ◌++◌, ◌⊎◌, Option, None, Some, Result, Ok, Err}
use Rattle.std.specs.Global.{Global}
use Rattle.dn_instance.specs.State.Helds.{Parsed}
use Rattle.dn_instance.specs.declared.reader.Reader.{Reader}
use Rattle.dn_instance.specs.declared.refusal.Refusal.{Refusal}
use Rattle.dn_instance.specs.declared.refusal.Refusal.TheVariants.{Memory}
use Rattle.dn_instance.specs.State.ReaderResults.{Fed, Outcome, refusal_of, fed_answer}
use Rattle.dn_instance.specs.State.ReaderStates.{ReaderAt}
use Rattle.dn_c.specs.State.Statuses.{fine, wrong_call, refused_with, answer_status}
use Rattle.dn_c.specs.declared.status.Status.{Status}
use Rattle.dn_c.specs.declared.work.Work.{Work}
use Rattle.dn_c.specs.declared.work.Work.TheVariants as Works
use Rattle.dn_c.specs.declared.handle.Handle.{Handle}

-- what the handle holds, if anything
abbrev pub work_of : Handle → Option Work
work_of h = h.seal.work

-- the work is a reader that was fed no bytes
abbrev pub IsNew : Option Work → Type 0
IsNew work = (r : Reader) × (work ≡ Some (Works.Reading r)) × ReaderAt r [] × (refusal_of r ≡ None)

-- what making a reader in a handle does
abbrev pub BeginsReader : Option Work → Option Work → Status → Type 0
BeginsReader None new status = ((status ≡ fine) × IsNew new) ⊎ ((status ≡ refused_with Memory) × (new ≡ None))
BeginsReader (Some work) new status = (status ≡ wrong_call) × (new ≡ Some work)

-- the reader has read the text and the piece after it, and the status says whether a complete line of them is refused
abbrev pub FeedsReader : Reader → List ℕ → Reader → Status → Type 0
FeedsReader r piece r' status =
    (status ≡ answer_status (fed_answer (refusal_of r')))
    × ((t : List ℕ) → ReaderAt r t → ReaderAt r' (t ++ piece) × Fed (t ++ piece) (fed_answer (refusal_of r')))
    × ((e : Refusal) → refusal_of r ≡ Some e → r' ≡ r)

-- what putting a new work into a handle does
abbrev pub Stores : Work → Option Work → Option Work → Status → Type 0
Stores work old new status = ((status ≡ fine) × (new ≡ Some work)) ⊎ ((status ≡ refused_with Memory) × (new ≡ old))

-- what feeding a piece does to a work
abbrev pub Feeds : Work → List ℕ → Work → Status → Type 0
Feeds (Works.Reading r) piece new status = (r' : Reader) × (new ≡ Works.Reading r') × FeedsReader r piece r' status
Feeds old piece new status = (new ≡ old) × (status ≡ wrong_call)

-- what a reader's outcome leaves in the handle
abbrev pub work_after : Global → Result Parsed Refusal → Work
work_after alloc (Ok held) = Works.Read held alloc
work_after alloc (Err e) = Works.Refused e

-- what the end of the text does to a work; a reader that has refused the text repeats its refusal
abbrev pub Finishes : Work → Work → Status → Type 0
Finishes (Works.Reading r) new status =
    (alloc : Global) × (o : Result Parsed Refusal) × ((t : List ℕ) → ReaderAt r t → Outcome t o)
    × ((e : Refusal) → refusal_of r ≡ Some e → o ≡ Err e) × (new ≡ work_after alloc o) × (status ≡ answer_status o)
Finishes old new status = (new ≡ old) × (status ≡ wrong_call)

-- the call does this to the work that the handle holds; if there is none, it does nothing
abbrev pub OnWork : (Work → Work → Status → Type 0) → Option Work → Option Work → Status → Type 0
OnWork Acts None new status = (new ≡ None) × (status ≡ wrong_call)
OnWork Acts (Some old) new status = (work : Work) × (new ≡ Some work) × Acts old work status
