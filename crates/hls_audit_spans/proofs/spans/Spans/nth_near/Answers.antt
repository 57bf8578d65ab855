use Rattle.std.proofs.Common.{◌≡◌, ◌+◌, ◌-◌, refl, subst, arith}
use Rattle.hls_audit_spans.specs.Spans.{IsNthAt}
use Rattle.hls_audit_spans.proofs.Answering.{nth_none, passed_read, nth_here, nth_past}
use Rattle.hls_audit_spans.proofs.spans.Spans.nth_near.Goals as goal

pub returns-then-at-eq0 : goal.returns-then-at-eq0
returns-then-at-eq0 c = λ f end tell.
    nth_none f c.args.self.now.spans.items end c.args.ticks c.passed_near-at.result tell c.passed_near-at.ensures
    c.if-at-eq0.true

pub returns-then-ticks-so_far : goal.returns-then-ticks-so_far
returns-then-ticks-so_far c = λ f end tell.
    let spans = c.args.self.now.spans.items in
    let at = c.passed_near-at.result in
    let s = c.index.result.now in
    let lt = c.if-ticks-so_far.true in
    let is = c.so_far-so_far.ensures in
    let back : s.idle + c.args.ticks ≡ s.until - (c.so_far-so_far.result - c.args.ticks) = omega (arith, lt, is) in
    subst (IsNthAt f c.args.ticks end) back
    (nth_here f spans end c.args.ticks at s
    (passed_read f spans end c.args.ticks at (at - 1) s tell c.passed_near-at.ensures c.if-at-eq0.false refl
    c.index.ensures) (omega (arith, lt, is)))

pub returns : goal.returns
returns c = λ f end tell.
    let spans = c.args.self.now.spans.items in
    let at = c.passed_near-at.result in
    let s = c.index.result.now in
    let le = c.if-ticks-so_far.false in
    let is = c.so_far-so_far.ensures in
    nth_past f spans end c.args.ticks at s tell c.passed_near-at.ensures
    (passed_read f spans end c.args.ticks at (at - 1) s tell c.passed_near-at.ensures c.if-at-eq0.false refl
    c.index.ensures) (omega (arith, le, is))
