use Rattle.std.proofs.Common.{rules, Some, None}
use Rattle.dn_compare.proofs.PeekedLaws.{turn, kept, halted, ended}
use Rattle.dn_compare.proofs.parting.first_parting.Goals as goal

pub returns-in-Some-how : goal.returns-in-Some-how
returns-in-Some-how g c =
    let t = turn g.S.Key.Ord.cmp g.met.S.Key.Ord.total g.met.S.Side.exact _ _ (search rules) c.loop-key.invariant.lefts
    c.loop-key.invariant.rights (c.take.ensures.value, c.take.ensures.rest)
    (c.take-in-Some.ensures.value, c.take-in-Some.ensures.rest) in
    c.loop-key.invariant.rest (Some (c.in-Some.key, c.in-Some-how.how))
    (halted g.S.Key.Ord.cmp g.met.S.Key.Ord.total g.met.S.Side.exact g.S.Side.by g.met.S.Side.none_alike
    g.met.S.Side.none_differ t c.in-Some-how.how c.in-Some-how.ensures)

pub loop-key-smaller : goal.loop-key-smaller
loop-key-smaller g c =
    (turn g.S.Key.Ord.cmp g.met.S.Key.Ord.total g.met.S.Side.exact _ _ (search rules) c.loop-key.invariant.lefts
    c.loop-key.invariant.rights (c.take.ensures.value, c.take.ensures.rest)
    (c.take-in-Some.ensures.value, c.take-in-Some.ensures.rest)).fewer

pub loop-key-preserved : goal.loop-key-preserved
loop-key-preserved g c =
    let t = turn g.S.Key.Ord.cmp g.met.S.Key.Ord.total g.met.S.Side.exact _ _ (search rules) c.loop-key.invariant.lefts
    c.loop-key.invariant.rights (c.take.ensures.value, c.take.ensures.rest)
    (c.take-in-Some.ensures.value, c.take-in-Some.ensures.rest) in
    record {
      lefts = t.left.ascends;
      rights = t.right.ascends;
      rest = λ o h. c.loop-key.invariant.rest o
          (kept g.S.Key.Ord.cmp g.met.S.Key.Ord.total g.met.S.Side.exact g.S.Side.by g.met.S.Side.none_alike
          g.met.S.Side.none_differ t c.in_default-how.ensures o h);
    }

pub returns : goal.returns
returns g c =
    c.loop-key.invariant.rest None
    (ended g.S.Key.Ord.cmp g.met.S.Key.Ord.total g.met.S.Side.exact g.S.Side.by g.met.S.Side.none_alike
    g.met.S.Side.none_differ _ _ (search rules))
