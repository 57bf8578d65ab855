use Rattle.std.proofs.Common.{arith}
use Rattle.hls_audit_spans.proofs.Answering.{reach_never, reach_by, reach_late, reach_none}
use Rattle.hls_audit_spans.proofs.spans.Spans.reach_near.Goals as goal

pub returns-then-until-since : goal.returns-then-until-since
returns-then-until-since c = λ f end tell le.
    reach_never f c.args.since c.args.ticks c.args.until c.requires.order c.if-until-since.true

pub returns-then-last-until : goal.returns-then-last-until
returns-then-last-until c = λ f end tell le.
    let some = c.if-ticks-eq0.false in
    let order = c.requires.order in
    reach_by f end c.args.since c.args.ticks c.args.until c.before_at.result c.in-Some.last order (omega (arith, some))
    (c.before_at.ensures.count f end tell c.begun_near-at.ensures
    (omega (arith, order, le))) c.if-last-until.true
    (c.in-Some.ensures f end tell)

pub returns-else-last-until : goal.returns-else-last-until
returns-else-last-until c = λ f end tell le.
    let some = c.if-ticks-eq0.false in
    let order = c.requires.order in
    reach_late f end c.args.since c.args.ticks c.args.until c.before_at.result c.in-Some.last order
    (omega (arith, some))
    (c.before_at.ensures.count f end tell c.begun_near-at.ensures
    (omega (arith, order, le))) c.if-last-until.false
    (c.in-Some.ensures f end tell)

pub returns-in-None : goal.returns-in-None
returns-in-None c = λ f end tell le.
    let some = c.if-ticks-eq0.false in
    let order = c.requires.order in
    reach_none f end c.args.since c.args.ticks c.args.until c.before_at.result order le (omega (arith, some))
    (c.before_at.ensures.count f end tell c.begun_near-at.ensures
    (omega (arith, order, le))) (c.in-None.ensures f end tell)
