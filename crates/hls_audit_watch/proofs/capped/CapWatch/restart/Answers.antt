use Rattle.std.proofs.Common.{◌≡◌, ℕ, ◌≤◌, ap, sym, subst, refl}
use Rattle.hls_audit_watch.specs.Inside.Lately.{Lately}
use Rattle.hls_audit_watch.specs.Inside.Periods.{IsCapPeriodOf}
use Rattle.hls_audit_watch.proofs.Watching.{capping_none}
use Rattle.hls_audit_watch.proofs.capped.CapWatch.restart.Goals as goal

pub invariant_of-self : goal.invariant_of-self
invariant_of-self c =
    let width : c.restart.new.self.period ≡ c.self.inside.recent.period =
    ap (λ (r : Lately). r.period) c.restart.ensures in
    let v = c.self.invariant in
    capping_none c.self.inside.guarantee c.self.inside.ticks c.restart.new.self.period
    (record { rate = c.self.inside.excess.rate; had = 0 }) c.restart.new.self.list v.valid v.few
    (subst (λ w. (n : ℕ) → n ≤ c.self.inside.ticks → IsCapPeriodOf c.self.inside.guarantee w n) (sym width)
    v.period) v.rate refl (ap (λ (r : Lately). r.list) c.restart.ensures)
