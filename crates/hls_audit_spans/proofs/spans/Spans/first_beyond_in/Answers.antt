use Rattle.std.proofs.Common.{◌≡◌, sym, ◌∙◌, arith, length}
use Rattle.hls_audit_spans.proofs.Beyond.{within_first, some_beyond, none_beyond, among_all, within_more, beyond_end}
use Rattle.hls_audit_spans.proofs.spans.Spans.first_beyond_in.Goals as goal

pub loop-at-init : goal.loop-at-init
loop-at-init c = λ f g end tell told le.
    let order = c.requires.order in
    within_first f g c.args.others.now.spans.items end c.args.since c.begun.result c.saturating_sub-at.result told
    c.begun.ensures c.saturating_sub-at.ensures (omega (arith, order, le))

pub returns-then-is_some : goal.returns-then-is_some
returns-then-is_some c = λ f g end tell told le.
    let others = c.args.others.now.spans.items in
    let long : c.len-at-end.result ≡ length others = c.len-at-end.ensures ∙ c.args.others.now.spans.ok.0 in
    let test = c.loop-at-test.true in
    let within = c.loop-at.invariant f g end tell told le in
    let early = within.early in
    let least = c.min.ensures in
    some_beyond f g others end c.args.since c.args.until c.loop-at.from c.loop-at.at c.min.result
    c.index-span.result.now c.next_before-beyond.result (omega (arith, test, long)) c.index-span.ensures least within
    (sym c.is_some.ensures ∙ c.if-is_some.true)
    (c.next_before-beyond.ensures f end tell early (omega (arith, least, le)))

pub returns-then-until-span : goal.returns-then-until-span
returns-then-until-span c = λ f g end tell told le.
    let others = c.args.others.now.spans.items in
    let long : c.len-at-end.result ≡ length others = c.len-at-end.ensures ∙ c.args.others.now.spans.ok.0 in
    let test = c.loop-at-test.true in
    let within = c.loop-at.invariant f g end tell told le in
    let least = c.min.ensures in
    among_all f g others end c.args.since c.args.until c.loop-at.from c.loop-at.at c.min.result
    c.index-span.result.now told (omega (arith, test, long)) c.index-span.ensures least c.if-until-span.true
    (none_beyond f c.loop-at.from c.min.result c.next_before-beyond.result
    (sym c.is_some.ensures ∙ c.if-is_some.false)
    (c.next_before-beyond.ensures f end tell within.early (omega (arith, least, le)))) within

pub loop-at-preserved : goal.loop-at-preserved
loop-at-preserved c = λ f g end tell told le.
    let others = c.args.others.now.spans.items in
    let long : c.len-at-end.result ≡ length others = c.len-at-end.ensures ∙ c.args.others.now.spans.ok.0 in
    let test = c.loop-at-test.true in
    let within = c.loop-at.invariant f g end tell told le in
    let least = c.min.ensures in
    within_more f g others end c.args.since c.args.until c.loop-at.from c.loop-at.at c.min.result c.max-from.result
    c.index-span.result.now told (omega (arith, test, long)) c.index-span.ensures least c.if-until-span.false
    c.max-from.ensures
    (none_beyond f c.loop-at.from c.min.result c.next_before-beyond.result
    (sym c.is_some.ensures ∙ c.if-is_some.false)
    (c.next_before-beyond.ensures f end tell within.early (omega (arith, least, le)))) within

pub returns : goal.returns
returns c = λ f g end tell told le.
    let others = c.args.others.now.spans.items in
    let long : c.len-at-end.result ≡ length others = c.len-at-end.ensures ∙ c.args.others.now.spans.ok.0 in
    let test = c.loop-at-test.false in
    let within = c.loop-at.invariant f g end tell told le in
    beyond_end f g others end c.args.since c.args.until c.loop-at.from c.loop-at.at c.next_before.result
    (omega (arith, test, long)) le within (c.next_before.ensures f end tell within.early le)
