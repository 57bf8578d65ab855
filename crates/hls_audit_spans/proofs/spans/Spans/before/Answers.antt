use Rattle.hls_audit_spans.proofs.spans.Spans.before.Goals as goal

pub returns-clause-count : goal.returns-clause-count
returns-clause-count c = λ f end tell le. c.before_at.ensures.count f end tell c.begun.ensures le
