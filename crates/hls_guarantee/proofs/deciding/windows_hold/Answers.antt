use Rattle.std.proofs.Common.{◌+◌, refl, arith}
use Rattle.hls_guarantee.specs.Service.{schedule_of}
use Rattle.hls_guarantee.proofs.Slides.{slid_none, slid_all, before-le}
use Rattle.hls_guarantee.proofs.deciding.windows_hold.Goals as goal

pub loop-at-init : goal.loop-at-init
loop-at-init c = slid_none c.args.hard c.args.x c.args.y (schedule_of c.args.list.now) c.requires.fits

pub is_reserved-requires-clause-got : goal.is_reserved-requires-clause-got
is_reserved-requires-clause-got c =
    let few = before-le (schedule_of c.args.list.now) c.args.y (c.loop-at.at + 1) in
    omega (arith, c.next_service-got.ensures, c.requires.size)

pub returns : goal.returns
returns c = (
  λ yes i n lo hi short.
      slid_all c.args.hard c.args.x c.args.y (schedule_of c.args.list.now) c.loop-at.at c.loop-at.got
      c.loop-at.invariant i n lo (omega (arith, c.loop-at-test.false)) short,
  λ each. refl,
)
