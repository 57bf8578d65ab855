use Rattle.std.proofs.Common.{◌≡◌, ℕ, ◌+◌, ◌%◌, ◌<◌, ◌≤◌, false, length, refl, arith}
use Rattle.std.proofs.lemmas.List.{get_or_past}
use Rattle.hls_guarantee.specs.Service.{schedule_of}
use Rattle.hls_guarantee.proofs.Slides.{before-le}
use Rattle.hls_guarantee.proofs.Blocks.{marked_none, marked_next, reserved-is, is-reserved, unmarked_kept}
use Rattle.hls_guarantee.proofs.Blocks.{kept_unmarked}
use Rattle.hls_guarantee.proofs.deciding.mark_broken.Goals as goal

pub loop-at-init : goal.loop-at-init
loop-at-init c =
    marked_none c.args.hard c.args.x c.args.y (schedule_of c.args.list.now) (length c.args.list.now)
    c.args.broken.now c.requires.wide c.requires.blank

pub is_reserved-kept-requires-clause-got : goal.is_reserved-kept-requires-clause-got
is_reserved-kept-requires-clause-got c =
    let few = before-le (schedule_of c.args.list.now) c.args.y (c.loop-at.at + 1) in
    omega (arith, c.next_service-got.ensures, c.requires.range.size)

pub loop-at-preserved : goal.loop-at-preserved
loop-at-preserved c =
    let len : ℕ = length c.args.list.now in
    let past : (t : ℕ) → len ≤ t → schedule_of c.args.list.now t ≡ false =
    λ t le. get_or_past c.args.list.now t false le in
    let some : 0 < c.args.y = omega (arith, c.requires.range.some, c.requires.range.fits) in
    let near : c.loop-at.at + 1 < len + c.args.y = omega (arith, c.loop-at-test.true, some) in
    let small : (c.loop-at.at + 1) % c.args.y < c.args.y = omega arith in
    marked_next c.args.hard c.args.x c.args.y (schedule_of c.args.list.now) len c.loop-at.at
    c.next_service-got.result c.loop-at.got ((c.loop-at.at + 1) % c.args.y) c.loop-at.broken c.mark.new.broken
    c.is_reserved-kept.result refl small near c.next_service-got.ensures
    (λ kept. reserved-is c.args.hard c.args.x c.args.y (schedule_of c.args.list.now) len (c.loop-at.at + 1)
    c.piece_len-n.result c.next_service-got.result past near c.piece_len-n.ensures c.next_service-got.ensures
    (c.is_reserved-kept.ensures.0 kept))
    (λ r. c.is_reserved-kept.ensures.1
    (is-reserved c.args.hard c.args.x c.args.y (schedule_of c.args.list.now) len (c.loop-at.at + 1)
    c.piece_len-n.result c.next_service-got.result past near c.piece_len-n.ensures
    c.next_service-got.ensures r))
    c.mark.ensures c.loop-at.invariant

pub returns : goal.returns
returns c = λ e small. (
  unmarked_kept c.args.hard c.args.x c.args.y e c.loop-at.at c.loop-at.got (schedule_of c.args.list.now)
      (length c.args.list.now) c.loop-at.broken c.requires.range.fits small
      (omega (arith, c.loop-at-test.false))
      c.loop-at.invariant,
  kept_unmarked c.args.hard c.args.x c.args.y e c.loop-at.at c.loop-at.got (schedule_of c.args.list.now)
      (length c.args.list.now) c.loop-at.broken small c.loop-at.invariant,
)
