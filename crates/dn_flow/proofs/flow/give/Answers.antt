use Rattle.std.proofs.Common.{rules, ◌≡◌, ℕ, ℤ, ◌+◌, ◌<◌, List, [], ◌∷◌, length, take, drop, slice_index_or, Option, None, IsSome, pos, refl, subst, ◌∙◌, arith, append-nil, take_all, w64}
use Rattle.std.proofs.lemmas.Int.{to_z-of_z}
use Rattle.std.proofs.lemmas.List.{drop_more}
use Rattle.std.specs.Map.{keys_of}
use Rattle.dn_arc_theory.specs.declared.arc.CostArc.{CostArc}
use Rattle.dn_arc_lines.specs.declared.arc_line.ArcLine.{ArcLine}
use Rattle.dn_flow.specs.State.Givings.{AreBalanced, Gives}
use Rattle.dn_flow.proofs.SpreadLaws.{more_set, nothing_to_give}
use Rattle.dn_flow.proofs.flow.give.Goals as goal

pub returns-clause-gives : goal.returns-clause-gives
returns-clause-gives g c h =
    let bounds : ArcLine → CostArc = λ line. g.B.Carries.carried (g.B.Carries.line_arc line) in
    let keys = keys_of c.args.table.now in
    let all = append-nil (take c.loop-i.i c.loop-i.units)
    ∙ take_all c.loop-i.i c.loop-i.units (omega (arith, c.loop-i.invariant.units_kept, c.loop-i-test.false)) in
    subst (λ us. Gives bounds keys c.args.shares.now c.args.lines.now us c.loop-i.shares) all
    (c.loop-i.invariant.gives [] c.loop-i.shares
    (nothing_to_give bounds keys c.loop-i.shares c.args.lines.now c.loop-i.i (omega (arith, c.loop-i-test.false))))

abbrev none_line : ArcLine
none_line = record { line = 0; tail = pos 0; head = pos 0; a = pos 0; b = pos 0; c = pos 0 }

-- what holds of the lines that are left holds of the next one and of those after it
at_next : (P : List ArcLine → Type 0) (lines : List ArcLine) (i : ℕ) (d : ArcLine) → i < length lines
    → P (drop i lines) → P (slice_index_or lines i d ∷ drop (i + 1) lines)
at_next P lines i d low h = subst P (drop_more lines i d low) h

pub returns-in_default-clause-all : goal.returns-in_default-clause-all
returns-in_default-clause-all g c apart b =
    let bounds : ArcLine → CostArc = λ line. g.B.Carries.carried (g.B.Carries.line_arc line) in
    let keys = keys_of c.args.table.now in
    let taken = c.give_line.ensures.all (drop (c.loop-i.i + 1) c.args.lines.now) apart
    (at_next (AreBalanced bounds keys c.loop-i.shares) c.args.lines.now c.loop-i.i _
    (omega (arith, c.loop-i-test.true)) (c.loop-i.invariant.all apart b)) in
    absurd (none_is c.give_line.result (search rules) taken.0)
  where
    none_is : (o : Option ℤ) → o ≡ None → IsSome o → ⊥
    none_is o e some = cc

pub loop-i-preserved : goal.loop-i-preserved
loop-i-preserved g c =
    let bounds : ArcLine → CostArc = λ line. g.B.Carries.carried (g.B.Carries.line_arc line) in
    let keys = keys_of c.args.table.now in
    record {
      gives = λ units shares h.
          let low : c.loop-i.i < length c.args.lines.now = omega (arith, c.loop-i-test.true) in
          let is = to_z-of_z w64 c.in-Some.some (search rules) in
          rw (
            is,
            more_set c.loop-i.units c.loop-i.i c.in-Some.some units
                (omega (arith, c.loop-i-test.true, c.loop-i.invariant.units_kept)),
          )
          (c.loop-i.invariant.gives (c.in-Some.some ∷ units) shares
          (rw (drop_more c.args.lines.now c.loop-i.i none_line low)
          (c.in-Some.some, units, c.give_line.new.shares, refl, c.in-Some.ensures.gives, h)));
      all = λ apart b.
          (c.give_line.ensures.all (drop (c.loop-i.i + 1) c.args.lines.now) apart
          (at_next (AreBalanced bounds keys c.loop-i.shares) c.args.lines.now c.loop-i.i _
          (omega (arith, c.loop-i-test.true)) (c.loop-i.invariant.all apart b))).1;
      shares_kept = search rules;
      units_kept = search rules;
    }
