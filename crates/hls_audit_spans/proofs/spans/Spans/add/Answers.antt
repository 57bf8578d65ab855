use Rattle.std.proofs.Common.{◌-◌, refl, ◌∙◌, arith}
use Rattle.hls_audit_spans.proofs.SpanLaws.{begun_all}
use Rattle.hls_audit_spans.proofs.Growing.{tell_more}
use Rattle.hls_audit_spans.proofs.spans.Spans.add.Goals as goal

pub returns : goal.returns
returns c = λ f tell on.
    let from = c.args.from in
    let few = c.before_at.ensures.few in
    let is = c.before_at.ensures.count f from tell
    (begun_all f c.args.self.now.spans.items from c.len.result
    (c.len.ensures ∙ c.args.self.now.spans.ok.0) tell) (omega arith) in
    tell_more f c.args.self.now.spans.items c.push.new.self.items
    (record { from = from; until = c.args.until; idle = from - c.before_at.result })
    from c.in_ok-push.ensures.items refl
    (record { some = c.requires.order; on = on; idle = omega (arith, few, is) }) tell
