use Rattle.std.proofs.Common.{◌≡◌, ℕ, ◌+◌, ◌-◌, ap, ◌∙◌, arith}
use Rattle.hls_chron.specs.Ticks.{count}
use Rattle.hls_audit_spans.proofs.Counts.{count_apart}
use Rattle.hls_audit_spans.proofs.spans.Spans.count.Goals as goal

pub returns : goal.returns
returns c = λ f end tell le.
    let from = c.args.from in
    let until : ℕ = from + c.args.ticks in
    let all = c.before-2.ensures.count f end tell le in
    let first = c.before-3.ensures.count f end tell (omega (arith, le)) in
    let split = count_apart f from until (omega arith) in
    let many : until - from ≡ c.args.ticks = omega arith in
    let same : count f from (until - from) ≡ count f from c.args.ticks = ap (count f from) many in
    c.saturating_sub.ensures ∙ omega (arith, all, first, split, same)
