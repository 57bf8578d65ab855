use Rattle.std.proofs.Common.{◌≡◌, rules, arith, length, subst, sym, ◌∙◌, ap, None, slice_set}
use Rattle.std.proofs.Common.{get_or}
use Rattle.hls_order.specs.Order.{IsLeast, better}
use Rattle.hls_order.proofs.Ways.{beside}
use Rattle.hls_order.proofs.Passing.{IsPlayed, played_none, played_more, played_least, played_empty}
use Rattle.hls_order.proofs.Replaying.{same_default}
use Rattle.hls_order.proofs.order.first_but.Goals as goal

pub loop-at-init : goal.loop-at-init
loop-at-init c =
    let size : length c.args.winners.now ≡ 63 = search rules in
    let few = c.requires.within in
    record {
      within = omega (arith, few);
      played = played_none c.args.keys.now c.args.winners.now c.requires.right c.args.slot few size;
    }

pub loop-at-preserved : goal.loop-at-preserved
loop-at-preserved c =
    let size : length c.args.winners.now ≡ 63 = search rules in
    let within = c.loop-at.invariant.within in
    let some = c.loop-at-test.true in
    let read = same_default c.args.winners.now (beside c.loop-at.at) (omega (arith, size, within, some)) in
    record {
      within = omega (arith, within);
      played = played_more c.args.keys.now c.args.winners.now c.requires.right c.args.slot c.requires.within size
          c.loop-at.at c.loop-at.first c.better-first.result some within c.loop-at.invariant.played
          (c.better-first.ensures
          ∙ ap (λ k. better c.args.keys.now c.loop-at.first (get_or c.args.winners.now k 0)) c.beside.ensures
          ∙ ap (better c.args.keys.now c.loop-at.first) (sym read));
    }

pub returns-then-first-lt-NONE : goal.returns-then-first-lt-NONE
returns-then-first-lt-NONE c =
    let keys : length c.args.keys.now ≡ 32 = search rules in
    let size : length c.args.winners.now ≡ 63 = search rules in
    let ended = c.loop-at-test.false in
    let top : c.loop-at.at ≡ 0 = omega (arith, ended) in
    let few = c.if-first-lt-NONE.true in
    let same = c.from.ensures in
    subst (IsLeast (slice_set c.args.keys.now c.args.slot None)) (sym same)
    (played_least c.args.keys.now c.args.winners.now c.requires.right c.args.slot c.requires.within size c.loop-at.first
    keys
    (subst (λ at. IsPlayed c.args.keys.now c.args.winners.now c.args.slot at c.loop-at.first) top
    c.loop-at.invariant.played) few)

pub returns-else-first-lt-NONE : goal.returns-else-first-lt-NONE
returns-else-first-lt-NONE c =
    let keys : length c.args.keys.now ≡ 32 = search rules in
    let size : length c.args.winners.now ≡ 63 = search rules in
    let ended = c.loop-at-test.false in
    let top : c.loop-at.at ≡ 0 = omega (arith, ended) in
    played_empty c.args.keys.now c.args.winners.now c.requires.right c.args.slot c.requires.within size c.loop-at.first
    keys
    (subst (λ at. IsPlayed c.args.keys.now c.args.winners.now c.args.slot at c.loop-at.first) top
    c.loop-at.invariant.played) c.if-first-lt-NONE.false
