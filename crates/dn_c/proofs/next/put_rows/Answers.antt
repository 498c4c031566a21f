use Rattle.std.proofs.Common.{◌<◌, ◌∷◌, [], ◌++◌, length, set, take, drop, sym, ap, subst, ◌∙◌, arith, Some, length-take-le, take_all}
use Rattle.std.proofs.lemmas.List.{length-map, length-set, map-append}
use Rattle.dn_c.specs.State.Rows.{row_of, rows_by}
use Rattle.dn_c.specs.State.Walks.{HasRows, IsLeft}
use Rattle.dn_c.proofs.WalkLaws.{has_one_more, more_copied, one_more, no_more}
use Rattle.dn_c.proofs.next.put_rows.Goals as goal

pub returns-in-None-clause-fills : goal.returns-in-None-clause-fills
returns-in-None-clause-fills g c left h =
    let numbers = g.B.Arc.Parts.numbers in
    let inv = c.loop-at.invariant.fills left h in
    let at = c.loop-at.at in
    let none = no_more left at (c.in-None.ensures.steps (drop at left) inv.2) in
    let all = take_all at left none ∙ sym (take_all (length c.args.out.now) left
    (omega (arith, none, c.loop-at-test.true))) in (
      subst (λ l. HasRows c.loop-at.out (rows_by numbers l)) all inv.0,
      sym (length-take-le at left inv.1) ∙ ap length all,
      inv.2,
    )

pub loop-at-preserved : goal.loop-at-preserved
loop-at-preserved g c = record {
  fills = λ left h.
      let lists = g.B.Bundle.bundle.listed c.args.form in
      let numbers = g.B.Arc.Parts.numbers in
      let inv = c.loop-at.invariant.fills left h in
      let at = c.loop-at.at in
      let went = c.in-Some.ensures.steps (drop at left) inv.2 in
      let more = one_more left at c.in-Some.found.1 went.0 went.1 in
      let done = rows_by numbers (take at left) in
      let long = length-map (take at left) _ ∙ length-take-le at left inv.1 in
      let rows = ap (λ l. done ++ l ∷ []) c.row.ensures
      ∙ sym (map-append (λ a. row_of a.0 (numbers a.1)) (take at left) (c.in-Some.found.1 ∷ []))
      ∙ ap (rows_by numbers) (sym more.0) in
      let low : at < length c.loop-at.out = omega (arith, c.loop-at-test.true, c.loop-at.invariant.kept) in (
        subst (HasRows (set c.loop-at.out at c.row.result)) rows
            (has_one_more c.loop-at.out done at c.row.result long low inv.0),
        more.2,
        subst (λ l. IsLeft lists (drop c.in-Some.found.0 c.args.table.now) (Some c.in-Some.found.1.1) l) (sym more.1)
            went.2,
      );
  listed =
      let at = c.loop-at.at in
      let low : at < length c.loop-at.out = omega (arith, c.loop-at-test.true, c.loop-at.invariant.kept) in
      more_copied g.B.Arc.Parts.numbers (g.B.Bundle.bundle.listed c.args.form) c.args.table.now c.loop-at.out
      (set c.loop-at.out at c.row.result) at c.in-Some.found.1 c.row.result c.row.ensures
      c.in-Some.ensures.listed
      (λ done long has. has_one_more c.loop-at.out done at c.row.result long low has) c.loop-at.invariant.listed;
  kept = length-set c.loop-at.out c.loop-at.at c.row.result ∙ c.loop-at.invariant.kept;
}
