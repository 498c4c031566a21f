use Rattle.std.proofs.Common.{◌<◌, ◌^◌, sym, ap, ◌∙◌, subst}
use Rattle.dn_instance.specs.EntryCount.{entries_by}
use Rattle.dn_instance.specs.Texts.{items_of}
use Rattle.dn_instance.proofs.ItemSteps.{few_read, kind_agrees}
use Rattle.dn_instance.proofs.SizeLaws.{so_far_fits}
use Rattle.dn_instance.proofs.text_so_far.TextSoFar.entries.Goals as goal

pub returns-in-Some : goal.returns-in-Some
returns-in-Some c ls h =
    let items = items_of ls in
    let at = h.items_are in
    let same = ap (λ o. entries_by o items) (rw c.in-Some.is at (kind_agrees c.args.self.now items at)) in
    c.entries.ensures items (rw c.in-Some.is at at.body_holds)
    (subst (λ n. n < 2 ^ 64) same (so_far_fits ls h.clean (few_read c.args.self.now items at))) ∙ sym same
