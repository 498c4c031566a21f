use Rattle.std.proofs.Common.{ℕ, List, get_or, ◌<◌, ◌≡◌, Some, unwrap_or, inl, inr, zero, suc, length, refl, sym, ◌∙◌, ap, arith, ◌+◌}
use Rattle.std.proofs.lemmas.Bool.{cases_lt, false≢true}
use Rattle.std.proofs.lemmas.Option.{slice_get_past, slice_get_read}
use Rattle.dn_compare.specs.Observed.{item_at}
use Rattle.dn_compare.proofs.parting.first_item.Goals as goal

pub loop-i-init : goal.loop-i-init
loop-i-init g c zero h = refl
loop-i-init g c (suc j) h = absurd (omega arith)

-- the item after the first i
next_item : {A : Type 0} (xs : List A) (n i : ℕ) (x : A) → n ≡ length xs → i < n → x ≡ get_or xs i x
    → item_at xs (i + 1) ≡ Some x
next_item xs n i x e h is =
    let next : i + 1 ≡ suc i = omega arith in rw next (slice_get_read xs n i x e h is)

pub returns-then-not-same : goal.returns-then-not-same
returns-then-not-same g c =
    let left = next_item c.args.left.now _ c.loop-i.i _ refl c.loop-i-test.true c.index-left-i.is in
    let right = next_item c.args.right.now _ c.loop-i.i _ c.requires c.loop-i-test.true c.index-right-i.is in
    record {
      differ = λ e. false≢true
          (c.if-not-same.ensures.1 (ap (λ o. unwrap_or o c.index-left-i.result) (sym left ∙ e ∙ right)));
      same_before = λ j h. c.loop-i.invariant j (omega arith);
    }

pub loop-i-preserved : goal.loop-i-preserved
loop-i-preserved g c j h =
    let left = next_item c.args.left.now _ c.loop-i.i _ refl c.loop-i-test.true c.index-left-i.is in
    let right = next_item c.args.right.now _ c.loop-i.i _ c.requires c.loop-i-test.true c.index-right-i.is in
    elim (cases_lt c.loop-i.i j) [
      | inl after ↦ (
          let here : j ≡ c.loop-i.i + 1 = omega arith in rw (here, left, right, c.if-not-same.ensures.0 refl))
      | inr before ↦ c.loop-i.invariant j before
    ]

pub returns : goal.returns
returns g c zero = refl
returns g c (suc j) = elim (cases_lt c.loop-i.i (suc j)) [
  | inl after ↦
      slice_get_past c.args.left.now j (omega (arith, c.loop-i-test.false))
      ∙ sym (slice_get_past c.args.right.now j (omega (arith, c.loop-i-test.false, c.requires)))
  | inr before ↦ c.loop-i.invariant (suc j) before
]
