use Rattle.std.proofs.Common.{◌≤◌, ◌^◌, [], ◌++◌, length, ◌∙◌, Err, refl, sym, ap, rules, arith, append-nil, length-append}
use Rattle.std.proofs.KnownBytes.{Consumes-nil}
use Rattle.dn_instance.specs.SourceReads.{after_pulls, unpulled, pulled}
use Rattle.dn_instance.specs.declared.refusal.Refusal.TheVariants.{Endless}
use Rattle.dn_instance.proofs.SourceLaws.{endless, given_all, given_more, has_none, has_some, kept, kept_more, left_here, left_on, not_refused, refused, refused_unread}
use Rattle.dn_instance.proofs.read.feed_all.Goals as goal

pub loop-init : goal.loop-init
loop-init g c = record {
  fed = record {
    given = [];
    gave = Consumes-nil (g.S.ByteSource.source.gives c.args.source.now);
    pulls = unpulled;
    stays = λ failed. failed;
    read = c.requires.new;
    fine = c.requires.fine;
  };
  count = search rules;
  kept = λ is. sym (append-nil _);
}

pub returns-then-is_empty-clause-fed : goal.returns-then-is_empty-clause-fed
returns-then-is_empty-clause-fed g c =
    let fed = c.loop.invariant.fed in
    let piece = c.piece-piece.result.now in
    let is = c.piece-piece.ensures in
    let none = has_none piece _ c.is_empty.ensures c.if-is_empty.true in
    let pull = c.in_default.ensures.ok in (
      fed.given,
      record {
        gave = given_all _ _ _ _ fed c.pull.new.self piece none (rw is pull.bytes);
        at_end = pull.end (sym is ∙ none);
        read = fed.read;
        fine = fed.fine;
      },
      c.loop.invariant.kept,
    )

pub returns-then-is_empty-clause-left : goal.returns-then-is_empty-clause-left
returns-then-is_empty-clause-left g c =
    left_on _ _ _ _ c.loop.invariant.fed c.pull.new.self _ c.pull.ensures.pulls
    (λ failed. c.in_default.ensures.ok.fine ∙ failed) (λ is. cc)

pub returns-in-Err-feed-clause-prefix : goal.returns-in-Err-feed-clause-prefix
returns-in-Err-feed-clause-prefix g c = (
  c.loop.invariant.fed.given ++ c.piece-piece.result.now,
  kept_more _ _ _ _ _ _ c.loop.invariant.kept c.in_default-keep.ensures.ok,
)

pub returns-in-Err-feed-clause-outcome : goal.returns-in-Err-feed-clause-outcome
returns-in-Err-feed-clause-outcome g c =
    let fed = c.loop.invariant.fed in
    let piece = c.piece-piece.result.now in
    let is = c.piece-piece.ensures in
    let pull = c.in_default.ensures.ok in
    let short : length piece ≤ 2 ^ 12 = rw is pull.bound in
    kept g.K.Keep.keeps _ _ (after_pulls g.S.ByteSource.source c.args.source.now c.pull.new.self) (fed.given ++ piece)
    (g.K.Keep.kept c.args.text.now) (g.K.Keep.kept c.keep.new.self) (Err c.in-Err-feed.refusal) refl
    (given_more _ _ _ _ fed c.pull.new.self piece (rw is pull.bytes))
    (kept_more _ _ _ _ fed.given piece c.loop.invariant.kept c.in_default-keep.ensures.ok)
    (refused _ _ _ _ fed c.pull.new.self piece c.pull.ensures.pulls (rw is pull.bytes) short c.in-Err-feed.refusal
    (c.in-Err-feed.ensures.fed fed.given fed.read)
    (λ memory. (c.in-Err-feed.ensures.memory fed.given fed.read fed.fine (ap (λ x. Err x) memory)).0))

pub returns-in-Err-feed-clause-left : goal.returns-in-Err-feed-clause-left
returns-in-Err-feed-clause-left g c =
    let fed = c.loop.invariant.fed in
    left_on _ _ _ _ fed c.pull.new.self _ c.pull.ensures.pulls (λ failed. c.in_default.ensures.ok.fine ∙ failed)
    (λ is. absurd (refused_unread _ _ _ (c.in-Err-feed.ensures.fed fed.given fed.read) (cc)))

pub loop-preserved : goal.loop-preserved
loop-preserved g c =
    let fed = c.loop.invariant.fed in
    let piece = c.piece-piece.result.now in
    let is = c.piece-piece.ensures in
    let pull = c.in_default.ensures.ok in
    let some = has_some piece _ c.is_empty.ensures c.if-is_empty.false in
    record {
      fed = record {
        given = fed.given ++ piece;
        gave = given_more _ _ _ _ fed c.pull.new.self piece (rw is pull.bytes);
        pulls =
            pulled c.loop.source c.pull.new.self piece fed.pulls c.pull.ensures.pulls (rw is pull.bytes) some;
        stays = λ failed. pull.fine ∙ fed.stays failed;
        read = c.in_default-feed.ensures.stands fed.given fed.read;
        fine = not_refused _ c.in_default-feed.ensures.answer;
      };
      count = omega (arith, length-append fed.given piece, c.loop.invariant.count);
      kept = kept_more _ _ _ _ _ _ c.loop.invariant.kept c.in_default-keep.ensures.ok;
    }

pub returns-clause-outcome : goal.returns-clause-outcome
returns-clause-outcome g c =
    let fed = c.loop.invariant.fed in
    kept g.K.Keep.keeps _ _ (after_pulls g.S.ByteSource.source c.args.source.now c.loop.source) fed.given
    (g.K.Keep.kept c.args.text.now) (g.K.Keep.kept c.loop.text) (Err Endless) refl fed.gave c.loop.invariant.kept
    (endless _ _ _ _ fed c.loop.counter c.loop.invariant.count (omega (arith, c.loop-test.false)))

pub returns-clause-left : goal.returns-clause-left
returns-clause-left g c = left_here _ _ _ _ c.loop.invariant.fed _ (λ is. cc)

pub returns-in-Err-clause-outcome : goal.returns-in-Err-clause-outcome
returns-in-Err-clause-outcome g c = search rules
