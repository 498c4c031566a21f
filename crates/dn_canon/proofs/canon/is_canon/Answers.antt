use Rattle.dn_canon.proofs.JudgeLaws.{refused_text}
use Rattle.dn_canon.proofs.canon.is_canon.Goals as goal

pub returns-in-Ok : goal.returns-in-Ok
returns-in-Ok c = (let o = c.in-Ok.ensures in (o.0, o.1, c.is_canon_of-judged.ensures o.0 o.1 o.2))

pub returns-in-Err : goal.returns-in-Err
returns-in-Err c = refused_text c.args.form c.args.text.now c.in-Err.refusal c.in-Err.ensures
