use Rattle.std.proofs.Common.{◌≡◌, ℕ, List, ◌+◌, drop}
use Rattle.dn_instance.specs.State.ReaderResults.{refusal_of}
use Rattle.dn_instance.specs.State.TextsSoFar.{LeftOf}
use Rattle.dn_instance.proofs.reader.Reader.take_block.Given as goal

abbrev pub invariant-loop-line : goal.invariant-loop-line
invariant-loop-line l =
    record {
      left : (ls : List (List ℕ)) (bytes end : List ℕ) → LeftOf l.fn.self.text ls bytes end l.head l.rows
          → LeftOf l.self.text ls bytes end l.head (drop l.line-index l.rows);
      counted : l.self.text.closed ≡ l.fn.self.text.closed + l.line-index;
      line : l.self.line ≡ l.fn.self.line;
      fine : refusal_of l.self ≡ refusal_of l.fn.self;
    }
