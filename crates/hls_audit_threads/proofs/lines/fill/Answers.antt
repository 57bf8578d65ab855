use Rattle.std.proofs.Common.{ℕ, sym, subst}
use Rattle.hls_audit_spans.specs.Spans.{Tell}
use Rattle.hls_audit_threads.specs.Inside.Lines.{IsPeriodicBy, IsPeriodicOf, IsOnce}
use Rattle.hls_audit_threads.proofs.LineLaws.{fills_some, fills_none, on_ticks, periodic_on}
use Rattle.hls_audit_threads.proofs.lines.fill.Goals as goal

pub returns-in-Some : goal.returns-in-Some
returns-in-Some c = λ f g end tell le old same.
    let wake = c.in-Some.wake in
    let is : IsPeriodicBy c.args.readiness c.args.since wake =
    subst (IsPeriodicOf c.args.readiness c.args.since) c.in-Some.is c.periodic_of.ensures in
    c.in_ok-fill.ensures f g end tell le
    (subst (λ (n : ℕ). Tell g c.args.ready.now.spans.items n) (sym is.begins) old)
    (periodic_on f g c.args.since c.args.until c.args.readiness wake is same)

pub returns-in_ok-add : goal.returns-in_ok-add
returns-in_ok-add c = λ f g end tell le old same.
    let is = c.reach_of-reach.ensures f end tell le in
    let once : IsOnce c.args.readiness c.args.since =
    subst (IsPeriodicOf c.args.readiness c.args.since) c.in_default.is c.periodic_of.ensures in
    fills_some f g c.args.since c.args.until c.reach_of-reach.result c.args.readiness c.add.new.self.spans.items once is
    same
    (c.in_ok-add.ensures g old
    (on_ticks f g c.args.since c.args.until c.reach_of-reach.result c.args.readiness once is same))

pub returns-else-since-reach : goal.returns-else-since-reach
returns-else-since-reach c = λ f g end tell le old same.
    let once : IsOnce c.args.readiness c.args.since =
    subst (IsPeriodicOf c.args.readiness c.args.since) c.in_default.is c.periodic_of.ensures in
    fills_none f g c.args.since c.args.until c.reach_of-reach.result c.args.readiness c.args.ready.now.spans.items once
    (c.reach_of-reach.ensures f end tell le) c.if-since-reach.false same old
