use Rattle.std.proofs.Common.{◌-◌, ◌∙◌, take, arith, refl}
use Rattle.std.proofs.lemmas.Simd.{length-chunk}
use Rattle.dn_num.proofs.MarkLaws.{found, next_marks, prefix_take}
use Rattle.dn_num.proofs.ShortLaws.{Word, word_bound, word_reads}
use Rattle.dn_num.proofs.mask.marked_number.Goals as goal

pub returns-clause-read : goal.returns-clause-read
returns-clause-read c =
    let bytes = c.args.bytes.now in
    let m = c.args.marks in
    let f = found bytes m _ c.requires.marks (omega arith) c.requires.few refl (omega arith) in
    let word : Word _ (take 8 bytes) c.word_of.result c.value-number.result = record {
      long = length-chunk 0 8 bytes c.requires.room;
      count = f.count ∙ prefix_take 8 (32 - m.from) bytes (omega (arith, c.requires.few)) (omega (arith, f.count));
      within = omega arith;
      word = c.word_of.ensures;
      value = c.value-number.ensures;
    } in
    word_reads _ bytes _ _ (omega arith) word

pub returns-clause-bound : goal.returns-clause-bound
returns-clause-bound c =
    let bytes = c.args.bytes.now in
    let m = c.args.marks in
    let f = found bytes m _ c.requires.marks (omega arith) c.requires.few refl (omega arith) in
    let word : Word _ (take 8 bytes) c.word_of.result c.value-number.result = record {
      long = length-chunk 0 8 bytes c.requires.room;
      count = f.count ∙ prefix_take 8 (32 - m.from) bytes (omega (arith, c.requires.few)) (omega (arith, f.count));
      within = omega arith;
      word = c.word_of.ensures;
      value = c.value-number.ensures;
    } in
    word_bound word

pub returns-clause-next : goal.returns-clause-next
returns-clause-next c =
    let bytes = c.args.bytes.now in
    let m = c.args.marks in
    next_marks bytes m _ c.requires.marks
    (found bytes m _ c.requires.marks (omega arith) c.requires.few refl (omega arith))
