use Rattle.hls_audit_threads.proofs.LineLaws.{burst_on}
use Rattle.hls_audit_threads.proofs.lines.reach_of.Goals as goal

pub returns-in-Burst : goal.returns-in-Burst
returns-in-Burst c = λ f end tell le.
    burst_on f c.args.readiness c.args.since c.in-Burst.ticks c.in-Burst.every c.args.until c.reach.result c.in-Burst.is
    (c.reach.ensures f end tell le)
