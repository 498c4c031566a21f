use Rattle.std.proofs.Common.{◌≡◌, ◌≤◌, ℕ, List, ◌++◌, length, take, ◌-◌, None}
use Rattle.dn_instance.specs.State.ReaderResults.{refusal_of}
use Rattle.dn_instance.specs.State.ReaderStates.{ReaderAt, IsReading}
use Rattle.dn_instance.proofs.reader.Reader.feed.Given as goal

abbrev pub invariant-loop-at : goal.invariant-loop-at
invariant-loop-at l =
    record {
      within : l.at ≤ length l.piece;
      fine : refusal_of l.self ≡ None;
      reads : (t : List ℕ) → ReaderAt l.fn.self t → IsReading l.self (t ++ take l.at l.piece);
    }

abbrev pub decreases-loop-at : goal.decreases-loop-at
decreases-loop-at l = length l.piece - l.at
