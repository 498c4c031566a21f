use Rattle.dn_num.proofs.PutLaws.{word_put}
use Rattle.dn_num.proofs.put.put_word.Goals as goal

pub returns : goal.returns
returns c cs = word_put c.args.at c.args.word c.args.bytes.now cs c.requires
