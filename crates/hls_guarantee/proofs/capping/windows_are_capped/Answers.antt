use Rattle.std.proofs.Common.{refl, arith}
use Rattle.hls_guarantee.specs.Service.{schedule_of}
use Rattle.hls_guarantee.proofs.Slides.{capped_none, capped_all}
use Rattle.hls_guarantee.proofs.capping.windows_are_capped.Goals as goal

pub loop-at-init : goal.loop-at-init
loop-at-init c = capped_none c.args.x c.args.y (schedule_of c.args.list.now)

pub returns : goal.returns
returns c = (
  λ yes i n lo hi short.
      capped_all c.args.x c.args.y (schedule_of c.args.list.now) c.loop-at.at c.loop-at.got
      c.loop-at.invariant i n lo (omega (arith, c.loop-at-test.false)) short,
  λ each. refl,
)
