use Rattle.std.proofs.Common.{◌≡◌, List, Option, None, Ok, sym, ap, ◌∙◌}
use Rattle.dn_line.specs.declared.code.Code.{Code}
use Rattle.dn_line.specs.declared.kind.Kind.{Kind}
use Rattle.dn_line.specs.declared.line.Head.{Head}
use Rattle.dn_line.specs.declared.line.Head.TheVariants.{Skip}
use Rattle.dn_line.specs.declared.line.Line.{Line}
use Rattle.dn_line.specs.declared.word.Word.{Word}
use Rattle.dn_line.specs.Faults.{first_fault, head_tests}
use Rattle.dn_line.specs.LineTable.{kind_named}
use Rattle.dn_line.specs.Words.{first, said_words}
use Rattle.dn_line.specs.State.LineReads.{fields_read, head_of, head_read}
use Rattle.dn_line.specs.State.RowItems.{item_of_row}
use Rattle.dn_instance.specs.TextFaults.{order_tests}
use Rattle.dn_instance.specs.State.TextsSoFar.{HasRead, next_read, text_kind}
use Rattle.dn_instance.specs.declared.text_so_far.TextSoFar.{TextSoFar}
use Rattle.dn_instance.proofs.FirstFaults.{none_from}
use Rattle.dn_instance.proofs.FollowLaws.{head_refused, head_skips, order_agrees, order_refused, then_fields}
use Rattle.dn_instance.proofs.ItemSteps.{kind_agrees}
use Rattle.dn_instance.proofs.text_so_far.TextSoFar.read.Goals as goal

pub returns-in-Err : goal.returns-in-Err
returns-in-Err c items l at stands =
    let ws = said_words l.bytes in
    let same = kind_agrees c.args.self.now items at ∙ sym c.kind-known.ensures in
    head_refused items ws c.in-Err.code
    (ap (λ k. head_read k ws) same ∙ sym (c.head.ensures l stands) ∙ c.in-Err.is)

pub returns-in-Some : goal.returns-in-Some
returns-in-Some c items l at stands =
    let ws = said_words l.bytes in
    let same = kind_agrees c.args.self.now items at ∙ sym c.kind-known.ensures in
    let own : head_read c.kind-known.result ws ≡ Ok c.in-Ok.head = sym (c.head.ensures l stands) ∙ c.in-Ok.is in
    let order =
    order_agrees c.kind-known.result items ws c.in-Ok.head _ own
    (rw (← c.kind-known.ensures) at (c.order_fault.ensures.answer items ws at)) c.order_fault.ensures.skip in
    order_refused items ws c.in-Ok.head c.in-Some.code (ap (λ k. head_read k ws) same ∙ own) (sym order ∙ c.in-Some.is)

-- without a fault because of the lines before it, the line reads as its fields do
then : (t : TextSoFar) (known : Option Kind) (items : List Line) (ws : List Word) (head : Head) (fault : Option Code)
    → HasRead t items → known ≡ text_kind t → head_read known ws ≡ Ok head
    → (first_fault (head_tests (text_kind t) ws) ≡ None → head ≡ head_of (first ws) (kind_named ws)
    → fault ≡ first_fault (order_tests items ws)) → (head ≡ Skip → fault ≡ None) → fault ≡ None
    → next_read items ws ≡ fields_read known ws
then t known items ws head fault at is own answer skip none =
    let same = kind_agrees t items at ∙ sym is in
    let order = order_agrees known items ws head fault own (rw (← is) at answer) skip in
    sym (then_fields items ws head (ap (λ k. head_read k ws) same ∙ own) (sym order ∙ none))
    ∙ ap (λ k. fields_read k ws) same

pub returns-in-Ok-row : goal.returns-in-Ok-row
returns-in-Ok-row c items l at stands =
    let own = sym (c.head.ensures l stands) ∙ c.in-Ok.is in (
      then c.args.self.now c.kind-known.result items (said_words l.bytes) c.in-Ok.head c.order_fault.result at
          c.kind-known.ensures own (c.order_fault.ensures.answer items (said_words l.bytes) at)
          c.order_fault.ensures.skip (none_from c.order_fault.result c.in_default.not-Some)
          ∙ sym (rw c.in-Ok-row.is at (c.row.ensures l stands own))
          ∙ ap (λ k. Ok (item_of_row c.in-Ok.head k c.in-Ok-row.row)) c.kind-known.ensures,
      λ e. head_skips c.kind-known.result (said_words l.bytes) c.in-Ok.head e own,
    )

pub returns-in-Err-row : goal.returns-in-Err-row
returns-in-Err-row c items l at stands =
    let own = sym (c.head.ensures l stands) ∙ c.in-Ok.is in
    then c.args.self.now c.kind-known.result items (said_words l.bytes) c.in-Ok.head c.order_fault.result at
    c.kind-known.ensures own (c.order_fault.ensures.answer items (said_words l.bytes) at) c.order_fault.ensures.skip
    (none_from c.order_fault.result c.in_default.not-Some) ∙ sym (rw c.in-Err-row.is at (c.row.ensures l stands own))
