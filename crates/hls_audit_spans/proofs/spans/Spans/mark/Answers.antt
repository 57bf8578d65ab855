use Rattle.std.proofs.Common.{◌≡◌, ◌<◌, length, arith, ◌∙◌}
use Rattle.hls_audit_spans.proofs.Beyond.{read}
use Rattle.hls_audit_spans.proofs.Marks.{marked_none, marked_more, marked_soon, marked_all}
use Rattle.hls_audit_spans.proofs.spans.Spans.mark.Goals as goal

pub loop-at-init : goal.loop-at-init
loop-at-init c = record {
  long = c.requires.long;
  ticks = λ f end tell le.
      marked_none f c.args.self.now.spans.items c.args.from end c.begun.result c.saturating_sub-first.result
      c.args.list.now tell c.begun.ensures c.saturating_sub-first.ensures c.requires.blank;
}

pub returns-then-until-span-clause-ticks : goal.returns-then-until-span-clause-ticks
returns-then-until-span-clause-ticks c = λ f end tell le.
    let spans = c.args.self.now.spans.items in
    let at = c.loop-at.at in
    let s = c.index-span.result.now in
    let long : c.len-at-end.result ≡ length spans = c.len-at-end.ensures ∙ c.args.self.now.spans.ok.0 in
    let test = c.loop-at-test.true in
    let lt : at < length spans = omega (arith, test, long) in
    marked_soon f spans c.args.from c.args.until end at s c.loop-at.list (read spans at s lt c.index-span.ensures)
    c.loop-at.invariant.long c.if-until-span.true (c.loop-at.invariant.ticks f end tell le)

pub returns-clause-ticks : goal.returns-clause-ticks
returns-clause-ticks c = λ f end tell le.
    let spans = c.args.self.now.spans.items in
    let long : c.len-at-end.result ≡ length spans = c.len-at-end.ensures ∙ c.args.self.now.spans.ok.0 in
    let test = c.loop-at-test.false in
    marked_all f spans c.args.from c.args.until end c.loop-at.at c.loop-at.list (omega (arith, test, long))
    c.loop-at.invariant.long le (c.loop-at.invariant.ticks f end tell le)

pub loop-at-preserved : goal.loop-at-preserved
loop-at-preserved c =
    let spans = c.args.self.now.spans.items in
    let at = c.loop-at.at in
    let s = c.index-span.result.now in
    let long : c.len-at-end.result ≡ length spans = c.len-at-end.ensures ∙ c.args.self.now.spans.ok.0 in
    let test = c.loop-at-test.true in
    let lt : at < length spans = omega (arith, test, long) in
    let same = c.turn_on.ensures.long in
    record {
      long = let old = c.loop-at.invariant.long in omega (arith, old, same);
      ticks = λ f end tell le.
          marked_more f spans c.args.from c.args.until end at c.saturating_sub-begin.result
          c.saturating_sub-end.result s
          c.loop-at.list c.turn_on.new.list tell (read spans at s lt c.index-span.ensures) c.loop-at.invariant.long
          c.saturating_sub-begin.ensures
          (omega (arith, c.saturating_sub-end.ensures, c.min.ensures)) same c.turn_on.ensures.on
          c.turn_on.ensures.before c.turn_on.ensures.behind (c.loop-at.invariant.ticks f end tell le);
    }
