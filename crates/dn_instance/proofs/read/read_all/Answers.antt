use Rattle.std.proofs.Common.{refl}
use Rattle.dn_instance.proofs.SourceLaws.{fed_all, kept}
use Rattle.dn_instance.proofs.read.read_all.Goals as goal

pub returns-in-Ok-clause-outcome : goal.returns-in-Ok-clause-outcome
returns-in-Ok-clause-outcome g c =
    let fed = c.in-Ok.ensures.fed in
    kept _ _ _ _ fed.0 _ _ _ refl fed.1.gave fed.2
    (fed_all _ _ _ _ fed.0 c.finish.result fed.1 (c.finish.ensures.outcome fed.0 fed.1.read)
    (c.finish.ensures.memory fed.0 fed.1.read fed.1.fine))

pub returns-in-Ok-clause-left : goal.returns-in-Ok-clause-left
returns-in-Ok-clause-left g c =
    let fed = c.in-Ok.ensures.fed in
    let left = c.feed_all.ensures.left in
    record {
      read = λ is. absurd (rw is at (c.finish.ensures.outcome fed.0 fed.1.read));
      stays = left.stays;
      pulls = left.pulls;
    }

pub returns-in-Err-clause-left : goal.returns-in-Err-clause-left
returns-in-Err-clause-left g c =
    let left = c.feed_all.ensures.left in
    record { read = λ is. left.read (let e = c.in-Err.is in cc); stays = left.stays; pulls = left.pulls }
