use Rattle.std.proofs.Common.{◌≡◌, subst, rules}
use Rattle.std.proofs.KnownBytes.{Keeps-refl, Keeps-trans}
use Rattle.std.specs.IoError.{error_kind}
use Rattle.std.specs.declared.io.ErrorKind.TheVariants.{Interrupted}
use Rattle.dn_host.specs.Streams.{none, more}
use Rattle.dn_host.proofs.stream.read_retrying.Goals as goal

pub loop-i-init : goal.loop-i-init
loop-i-init g c = (Keeps-refl (g.S.Stream.stream.gives c.args.stream.now), none)

pub loop-i-preserved : goal.loop-i-preserved
loop-i-preserved g c =
    let kind : error_kind c.in-Err.error ≡ Interrupted = search rules in (
      Keeps-trans (g.S.Stream.stream.gives c.args.stream.now) (g.S.Stream.stream.gives c.loop-i.stream)
          (g.S.Stream.stream.gives c.read.new.self) c.loop-i.invariant.0 c.in-Err.ensures.bytes,
      more c.loop-i._i c.loop-i.stream c.read.new.self c.loop-i.invariant.1
          (subst (λ k. g.S.Stream.stream.Fails c.loop-i.stream k c.read.new.self) kind c.in-Err.ensures.fails),
    )

pub returns : goal.returns
returns g c = search rules
