use Rattle.std.proofs.Common.{length-set, get_or, get_or-set_same, ◌≡◌, ◌-◌, ◌/◌, arith, ap, ◌∙◌, subst, sym}
use Rattle.hls_order.specs.Order.{better, none}
use Rattle.hls_order.specs.Inside.Rising.{IsRightBut}
use Rattle.hls_order.proofs.Ways.{beside}
use Rattle.hls_order.proofs.Replaying.{risen_by, same_default, won_all}
use Rattle.hls_order.proofs.order.replay.Goals as goal

pub loop-at-init : goal.loop-at-init
loop-at-init c =
    let within = c.requires.within in
    let size = c.told-winners in
    record {
      size = size;
      within = within;
      here = same_default c.args.winners.now c.args.from (omega (arith, size, within));
      right = c.requires.right;
    }

pub loop-at-preserved : goal.loop-at-preserved
loop-at-preserved c =
    let winners = c.loop-at.winners in
    let size = c.loop-at.invariant.size in
    let within = c.loop-at.invariant.within in
    let some = c.loop-at-test.true in
    let read = same_default winners (beside c.loop-at.at) (omega (arith, size, within, some)) in
    let game = c.better-winner.ensures
    ∙ ap (λ k. better c.args.keys.now c.loop-at.winner (get_or winners k 0)) c.beside.ensures
    ∙ ap (better c.args.keys.now c.loop-at.winner) (sym read) in
    record {
      size = length-set winners ((c.loop-at.at - 1) / 2) c.better-winner.result ∙ size;
      within = omega (arith, within);
      here = get_or-set_same winners ((c.loop-at.at - 1) / 2) c.better-winner.result none (omega (arith, size, within));
      right = risen_by c.args.keys.now winners c.loop-at.at some within size c.loop-at.invariant.right
          c.loop-at.winner c.better-winner.result c.loop-at.invariant.here game;
    }

pub returns : goal.returns
returns c =
    let ended = c.loop-at-test.false in
    let first : c.loop-at.at ≡ 0 = omega (arith, ended) in
    won_all c.args.keys.now c.loop-at.winners
    (subst (λ at. IsRightBut c.args.keys.now c.loop-at.winners at) first c.loop-at.invariant.right)
