use Rattle.std.proofs.Common.{sym, ◌∙◌}
use Rattle.dn_line.proofs.RowLaws.{fit_first}
use Rattle.dn_line.proofs.row.fit.Goals as goal

pub returns-then-fourth : goal.returns-then-fourth
returns-then-fourth c is =
    let fit = c.if-fourth.true in
    fit_first c.args.fields.now _ c.requires.few (
      sym c.fits-first.ensures ∙ fit.0,
      (
        sym c.fits-second.ensures ∙ fit.1,
        (
          sym c.fits-third.ensures ∙ fit.2,
          (sym c.fits-fourth.ensures ∙ fit.3, (sym c.fits-fifth.ensures ∙ is, tt)),
        ),
      ),
    )
