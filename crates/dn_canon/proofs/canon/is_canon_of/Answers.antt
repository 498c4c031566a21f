use Rattle.std.proofs.Common.{rules, ◌<◌, ◌^◌, length}
use Rattle.dn_instance.proofs.ValidLaws.{reads_valid}
use Rattle.dn_canon.proofs.JudgeLaws.{judged_unwritten, judged_whole}
use Rattle.dn_canon.proofs.canon.is_canon_of.Goals as goal

pub returns-in-Ok : goal.returns-in-Ok
returns-in-Ok c I reads is =
    judged_whole c.args.form c.args.text.now I _ c.write_canon-written.new.sink c.new-matcher.ensures.text
    c.new-matcher.ensures.put (c.in-Ok.ensures.canon I (reads_valid c.args.text.now I reads) is) _
    c.is_match-same.ensures.same

pub returns-in-Err : goal.returns-in-Err
returns-in-Err c I reads is =
    let small : length c.args.text.now < 2 ^ 63 = search rules in
    judged_unwritten c.args.form c.args.text.now I _ c.write_canon-written.new.sink c.new-matcher.ensures.text
    c.new-matcher.ensures.put _ (c.in-Err.ensures.canon I (reads_valid c.args.text.now I reads) is)
    c.is_match-same.ensures.apart small
