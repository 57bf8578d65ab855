use Rattle.std.proofs.Common.{◌≡◌, ◌+◌, arith}
use Rattle.hls_audit_watch.proofs.Rings.{next_inside, next_around}
use Rattle.hls_audit_watch.proofs.recent.next_place.Goals as goal

pub returns-then-place-period : goal.returns-then-place-period
returns-then-place-period c = λ tick is.
    next_inside c.args.period c.args.place tick (omega (arith, c.if-place-period.true)) is

pub returns-else-place-period : goal.returns-else-place-period
returns-else-place-period c = λ tick is.
    let end : c.args.place + 1 ≡ c.args.period = omega (arith, c.requires, c.if-place-period.false) in
    next_around c.args.period c.args.place tick end is
