use Rattle.std.proofs.Common.{refl, subst, sym}
use Rattle.dn_c.specs.declared.work.Work.TheVariants as Works
use Rattle.dn_c.specs.State.Lines.{TakesLines}
use Rattle.dn_c.proofs.LinesLaws.{gives, told_count}
use Rattle.dn_c.proofs.lines.lines_of.Goals as goal

pub returns-in-Lines-clause-takes : goal.returns-in-Lines-clause-takes
returns-in-Lines-clause-takes c =
    let new = c.feed-given.new.self in
    let out = c.feed-given.new.out in
    let given = c.feed-given.ensures in
    subst (λ w. TakesLines w c.args.piece.now (Works.Lines new) c.args.out.now out c.told.result) (sym c.in-Lines.is) (
      new,
      refl,
      gives c.in-Lines.reader new c.args.piece.now out c.feed-given.result.used c.feed-given.result.count c.stop.result
          c.told.result c.told.ensures given.stands given.rows given.again given.all c.stop.ensures.first
          c.stop.ensures.none,
      rw (c.told.ensures, told_count c.feed-given.result.used c.feed-given.result.count c.stop.result) given.rest,
    )
