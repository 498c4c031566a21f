use Rattle.std.proofs.Common.{[]}
use Rattle.dn_instance.proofs.PieceSteps.{lines_more}
use Rattle.dn_instance.proofs.ReaderLaws.{refused_as}
use Rattle.dn_instance.proofs.read.read_text.Goals as goal

pub returns-in-Ok : goal.returns-in-Ok
returns-in-Ok c = c.finish.ensures.outcome c.args.text.now (c.feed.ensures.stands [] c.new-reader.ensures.stands)

pub returns-in-Err : goal.returns-in-Err
returns-in-Err c =
    let t = c.args.text.now in
    refused_as t 0 _ c.in-Err.refusal (lines_more t) (c.in-Err.ensures.fed [] c.new-reader.ensures.stands)
