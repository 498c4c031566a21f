use Rattle.std.proofs.Common.{◌≡◌, true, false, is_some, sym, ap, ◌∙◌, [], ◌++◌, take, arith}
use Rattle.dn_instance.proofs.PieceSteps.{rest_len, step_on}
use Rattle.dn_arc_lines.specs.State.Reading.{fault_of}
use Rattle.dn_arc_lines.proofs.HandsLaws.{hands_on, rest_later}
use Rattle.dn_arc_lines.proofs.arc_lines.ArcLines.feed.Goals as goal

pub loop-used-preserved : goal.loop-used-preserved
loop-used-preserved c =
    let piece = c.args.piece.now in
    let used = c.loop-used.used in
    let given = c.advance-given.ensures in
    record {
      within = omega (arith, given.bound, rest_len piece used, c.loop-used.invariant.within);
      fits = given.fits;
      again = λ code is.
          let same = c.loop-used.invariant.again code is in
          let e : true ≡ false = sym (ap (λ r. is_some (fault_of r)) same.2 ∙ ap is_some is) ∙ c.if-is_none.ensures in
          cc;
      rest =
          given.rest
          ∙ rest_later c.loop-used.count c.advance-given.result.count c.loop-used.out c.args.out.now given.more
          c.loop-used.invariant.rest;
      hands = λ t h.
          let was = c.loop-used.invariant.hands t h in
          rw (← step_on t piece used c.advance-given.result.used)
          (hands_on c.loop-used.self c.advance-given.new.self t (t ++ take used piece) _ [] _ _ was
          (given.hands (t ++ take used piece) was.stands));
    }
