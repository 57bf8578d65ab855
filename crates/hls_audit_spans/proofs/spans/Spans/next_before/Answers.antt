use Rattle.std.proofs.Common.{arith}
use Rattle.hls_audit_spans.proofs.Beyond.{before_next, before_past}
use Rattle.hls_audit_spans.proofs.spans.Spans.next_before.Goals as goal

pub returns-then-next-until : goal.returns-then-next-until
returns-then-next-until c = λ f end tell early le.
    before_next f c.args.tick c.args.until end c.in-Some.next c.if-next-until.true (c.in-Some.ensures f end tell early)

pub returns-else-next-until : goal.returns-else-next-until
returns-else-next-until c = λ f end tell early le.
    before_past f c.args.tick c.args.until end c.in-Some.next c.if-next-until.false
    (c.in-Some.ensures f end tell early)

pub returns-in-None : goal.returns-in-None
returns-in-None c = λ f end tell early le t lo hi. c.in-None.ensures f end tell early t lo (omega (arith, hi, le))
