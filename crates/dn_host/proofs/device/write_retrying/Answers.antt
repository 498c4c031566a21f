use Rattle.std.proofs.Common.{◌≡◌, subst, rules}
use Rattle.std.proofs.KnownBytes.{Keeps-refl, Keeps-trans}
use Rattle.std.specs.IoError.{error_kind}
use Rattle.std.specs.declared.io.ErrorKind.TheVariants.{Interrupted}
use Rattle.dn_host.specs.Streams.{none, more}
use Rattle.dn_host.proofs.device.write_retrying.Goals as goal

pub loop-i-init : goal.loop-i-init
loop-i-init g c = (Keeps-refl (g.D.Device.device.taken c.args.device.now), none)

pub loop-i-preserved : goal.loop-i-preserved
loop-i-preserved g c =
    let kind : error_kind c.in-Err.error ≡ Interrupted = search rules in (
      Keeps-trans (g.D.Device.device.taken c.args.device.now) (g.D.Device.device.taken c.loop-i.device)
          (g.D.Device.device.taken c.write.new.self) c.loop-i.invariant.0 c.in-Err.ensures.bytes,
      more c.loop-i._i c.loop-i.device c.write.new.self c.loop-i.invariant.1
          (subst (λ k. g.D.Device.device.Fails c.loop-i.device k c.write.new.self) kind c.in-Err.ensures.how),
    )
