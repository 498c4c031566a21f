use Rattle.std.specs.Io.KnownBytes.{Keeps}
use Rattle.dn_host.specs.Streams.{Interrupts}
use Rattle.dn_host.specs.State.Devices.{failing}
use Rattle.dn_host.proofs.device.write_retrying.Given as goal

-- the writes so far were interrupted, and took no byte
abbrev pub invariant-loop-i : goal.invariant-loop-i
invariant-loop-i g l =
    Keeps (g.D.Device.device.taken l.fn.device) (g.D.Device.device.taken l.device)
    × Interrupts (failing g.D.Device.device) l.fn.device l._i l.device
