use Rattle.std.specs.Io.KnownBytes.{Keeps}
use Rattle.dn_host.specs.Streams.{Interrupts}
use Rattle.dn_host.proofs.stream.read_retrying.Given as goal

-- the reads so far were interrupted, and gave no byte
abbrev pub invariant-loop-i : goal.invariant-loop-i
invariant-loop-i g l =
    Keeps (g.S.Stream.stream.gives l.fn.stream) (g.S.Stream.stream.gives l.stream)
    × Interrupts g.S.Stream.stream l.fn.stream l._i l.stream
