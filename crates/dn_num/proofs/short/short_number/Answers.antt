use Rattle.std.proofs.Common.{rules, drop, take, arith}
use Rattle.std.proofs.lemmas.Simd.{length-chunk}
use Rattle.dn_num.proofs.ShortLaws.{Word, word_bound, word_reads}
use Rattle.dn_num.proofs.short.short_number.Goals as goal

pub returns : goal.returns
returns c =
    let bytes = drop c.args.at c.args.bytes.now in
    let word : Word c.digits_at-used.result (take 8 bytes) c.word_of.result c.value.result = record {
      long = length-chunk c.args.at 8 c.args.bytes.now c.requires;
      count = c.digits_at-used.ensures.count;
      within = c.digits_at-used.ensures.within;
      word = c.word_of.ensures;
      value = c.value.ensures;
    } in
    record {
      read = word_reads _ bytes _ _ (omega arith) word;
      some = search rules;
      within = search rules;
      bound = word_bound word;
    }
