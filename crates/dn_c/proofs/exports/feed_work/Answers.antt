use Rattle.std.proofs.Common.{refl, sym, ap, subst, ◌∙◌, ◌++◌}
use Rattle.dn_instance.specs.State.ReaderResults.{Fed}
use Rattle.dn_c.specs.State.Statuses.{answer_status}
use Rattle.dn_c.specs.declared.work.Work.TheVariants as Works
use Rattle.dn_c.specs.State.Works.{Feeds}
use Rattle.dn_c.proofs.exports.feed_work.Goals as goal

-- src/exports.rt:47:1
pub returns-in-Ok : goal.returns-in-Ok
returns-in-Ok c =
    let answer = c.feed.ensures.answer in
    subst (λ w. Feeds w c.args.piece.now (Works.Reading c.feed.new.self) c.fine.result) (sym c.in-Reading.is) (
      c.feed.new.self,
      refl,
      (
        c.fine.ensures ∙ ap answer_status (sym c.in-Ok.is ∙ answer),
        (λ t at. (c.feed.ensures.stands t at, subst (Fed (t ++ c.args.piece.now)) answer (c.feed.ensures.fed t at))),
        c.feed.ensures.again,
      ),
    )
