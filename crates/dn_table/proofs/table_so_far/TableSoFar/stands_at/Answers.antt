use Rattle.std.proofs.Common.{◌<◌, length, sym, ◌∙◌, ap, true≢false}
use Rattle.std.proofs.lemmas.Bool.{ltb-true}
use Rattle.std.proofs.lemmas.Map.Entries.{length-keys_of}
use Rattle.std.specs.Map.{keys_of}
use Rattle.pair_index.proofs.ChainLaws.{key_of_position}
use Rattle.dn_table.proofs.table_so_far.TableSoFar.stands_at.Goals as goal

pub returns-in-Some : goal.returns-in-Some
returns-in-Some g c is =
    let es = c.deref.result.now in
    let same = ap keys_of (c.deref.ensures.value ∙ c.self.view_is) in
    let lt : c.args.at < length (keys_of es) =
    rw (length-keys_of es) (ltb-true c.args.at (length es) (sym c.in-Some.ensures.lookup.0)) in
    let key = key_of_position es c.args.at c.in-Some.entry.now lt in (
      rw same at lt,
      rw (← same) (key ∙ ap (λ e. e.0) (sym c.in-Some.ensures.lookup.1) ∙ c.is_pair.ensures.0 is),
    )

pub returns-in-None : goal.returns-in-None
returns-in-None g c is = absurd (true≢false (sym is))
