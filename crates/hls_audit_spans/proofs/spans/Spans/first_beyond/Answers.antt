use Rattle.hls_audit_spans.proofs.Beyond.{beyond_whole}
use Rattle.hls_audit_spans.proofs.spans.Spans.first_beyond.Goals as goal

pub returns : goal.returns
returns c = λ f g end tell told.
    let last = c.end.ensures f end tell in
    beyond_whole f g c.end.result end c.first_beyond_in.result last
    (c.first_beyond_in.ensures f g end tell told last.order)
