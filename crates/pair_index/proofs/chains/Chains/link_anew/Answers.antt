use Rattle.std.proofs.Common.{◌++◌, ◌∷◌, [], ℤ, refl, take, sym, ap, ◌∙◌, subst}
use Rattle.std.specs.Map.{keys_of}
use Rattle.std.proofs.lemmas.List.{take_all}
use Rattle.pair_index.specs.State.Chained.{IsChained}
use Rattle.pair_index.proofs.IndexLaws.{keys_take_more}
use Rattle.pair_index.proofs.chains.Chains.link_anew.Goals as goal

pub loop-entry-init : goal.loop-entry-init
loop-entry-init g c = record { linked = c.requires.unlinked; capacity = refl }

pub loop-entry-preserved : goal.loop-entry-preserved
loop-entry-preserved g c =
    let es = c.args.entries.now in
    let i = c.loop-entry.entry-index in
    let key = ap (λ (k : ℤ × ℤ). keys_of (take i es) ++ k ∷ []) (ap (λ e. e.0) c.entry-item.is) in
    record {
      linked =
          subst (IsChained c.link.new.self) (key ∙ sym (keys_take_more es i c.entry-item.result c.loop-entry-test.true))
          (c.link.ensures.linked (keys_of (take i es)) c.loop-entry.invariant.linked);
      capacity = c.link.ensures.capacity ∙ c.loop-entry.invariant.capacity;
    }

pub returns : goal.returns
returns g c =
    subst (λ some. IsChained c.loop-entry.self (keys_of some))
    (take_all c.loop-entry.entry-index c.args.entries.now c.loop-entry-test.false) c.loop-entry.invariant.linked
