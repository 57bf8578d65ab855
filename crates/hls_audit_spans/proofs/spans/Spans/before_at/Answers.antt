use Rattle.std.proofs.Common.{◌-◌, refl, subst, arith}
use Rattle.hls_audit_spans.specs.Inside.Places.{IsBegun}
use Rattle.hls_audit_spans.proofs.SpanLaws.{last_span, last_read, before_none, before_some}
use Rattle.hls_audit_spans.proofs.spans.Spans.before_at.Goals as goal

pub returns-then-at-eq0-clause-count : goal.returns-then-at-eq0-clause-count
returns-then-at-eq0-clause-count c = λ f end tell begun le.
    before_none f c.args.self.now.spans.items end c.args.tick tell
    (subst (IsBegun c.args.self.now.spans.items c.args.tick) c.if-at-eq0.true begun) le

pub returns-clause-count : goal.returns-clause-count
returns-clause-count c = λ f end tell begun le.
    let spans = c.args.self.now.spans.items in
    let at = c.args.at in
    let none = c.if-at-eq0.false in
    let last = last_span f spans end c.args.tick at tell begun (omega (arith, none)) in
    before_some f spans end c.args.tick at c.index.result.now c.before-2.result tell begun le last
    (last_read f spans end c.args.tick at (at - 1) c.index.result.now last refl c.index.ensures) c.before-2.ensures
