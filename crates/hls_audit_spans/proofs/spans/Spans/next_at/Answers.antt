use Rattle.std.proofs.Common.{sym, ◌∙◌}
use Rattle.hls_audit_spans.proofs.Answering.{next_here, next_span, next_none}
use Rattle.hls_audit_spans.proofs.SpanLaws.{read_some, read_none}
use Rattle.hls_audit_spans.proofs.spans.Spans.next_at.Goals as goal

pub returns-then-is_in : goal.returns-then-is_in
returns-then-is_in c = λ f end tell le.
    next_here f c.args.self.now.spans.items end c.args.tick c.args.at tell c.requires
    (sym c.is_in.ensures ∙ c.if-is_in.true)

pub returns-in-Some : goal.returns-in-Some
returns-in-Some c = λ f end tell le.
    next_span f c.args.self.now.spans.items end c.args.tick c.args.at c.in-Some.span.now tell c.requires
    (sym c.is_in.ensures ∙ c.if-is_in.false)
    (read_some c.args.self.now.spans.items c.deref.result.now c.args.at c.in-Some.span.now c.deref.ensures.value
    c.in-Some.ensures.lookup.0 c.in-Some.ensures.lookup.1)

pub returns-in-None : goal.returns-in-None
returns-in-None c = λ f end tell le.
    next_none f c.args.self.now.spans.items end c.args.tick c.args.at tell c.requires
    (sym c.is_in.ensures ∙ c.if-is_in.false)
    (read_none c.args.self.now.spans.items c.deref.result.now c.args.at c.deref.ensures.value
    c.in-None.ensures.lookup.3)
