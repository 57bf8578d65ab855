use Rattle.std.proofs.Common.{◌≡◌, ℕ, ◌≤◌, ap, sym, subst, refl}
use Rattle.hls_audit_watch.specs.Inside.Lately.{Lately}
use Rattle.hls_audit_watch.specs.Inside.Periods.{IsCapPeriodOf}
use Rattle.hls_audit_watch.proofs.Watching.{capping_none}
use Rattle.hls_audit_watch.proofs.capped.CapWatch.new.Goals as goal

pub invariant_of-result : goal.invariant_of-result
invariant_of-result c =
    let width : c.in_ok-recent.recent.period ≡ c.cap_period_of-period.result =
    ap (λ (r : Lately). r.period) c.in_ok-recent.ensures in
    let period : (n : ℕ) → n ≤ c.args.ticks → IsCapPeriodOf c.args.guarantee.now c.in_ok-recent.recent.period n =
    subst (λ w. (n : ℕ) → n ≤ c.args.ticks → IsCapPeriodOf c.args.guarantee.now w n) (sym width)
    c.cap_period_of-period.ensures.period in
    capping_none c.args.guarantee.now c.args.ticks c.in_ok-recent.recent.period
    (record { rate = c.rate_of-rate.result; had = 0 }) c.in_ok-recent.recent.list c.requires.valid c.requires.few period
    c.rate_of-rate.ensures refl (ap (λ (r : Lately). r.list) c.in_ok-recent.ensures)
