use Rattle.dn_line.specs.Pieces.{lines}
use Rattle.dn_instance.proofs.FirstFaults.{none_from}
use Rattle.dn_instance.proofs.ReaderLaws.{all_same, reading, refused_as, refused_before, held_whole}
use Rattle.dn_instance.proofs.reader.Reader.finish.Goals as goal

pub returns-in-Some-clause-outcome : goal.returns-in-Some-clause-outcome
returns-in-Some-clause-outcome c t h = refused_before c.args.self t c.in-Some.refusal c.in-Some.is h

pub returns-in-Err-clause-outcome : goal.returns-in-Err-clause-outcome
returns-in-Err-clause-outcome c t h =
    let r = reading c.args.self t (none_from c.args.self.refusal c.in_default.not-Some) h in
    refused_as t _ (lines t) c.in-Err.refusal (all_same (lines t)) (c.in-Err.ensures t r)

pub returns-in-Ok-end-clause-outcome : goal.returns-in-Ok-end-clause-outcome
returns-in-Ok-end-clause-outcome c t h =
    let all = c.in-Ok.ensures t (reading c.args.self t (none_from c.args.self.refusal c.in_default.not-Some) h) in
    held_whole _ t c.in-Ok-end.held all (c.in-Ok-end.ensures (lines t) all)

pub returns-in-Err-end-clause-outcome : goal.returns-in-Err-end-clause-outcome
returns-in-Err-end-clause-outcome c t h =
    let all = c.in-Ok.ensures t (reading c.args.self t (none_from c.args.self.refusal c.in_default.not-Some) h) in
    record { clean = all.clean; fault_is = c.in-Err-end.ensures (lines t) all }
