use Rattle.std.proofs.Common.{◌≡◌, ℕ, ◌≤◌, length, ap, sym, subst, refl}
use Rattle.hls_audit_watch.specs.Inside.Lately.{Lately}
use Rattle.hls_audit_watch.specs.Inside.Carried.{HasPlaces}
use Rattle.hls_audit_watch.specs.Inside.Periods.{IsPeriodOf}
use Rattle.hls_audit_watch.proofs.Watching.{keeping_none}
use Rattle.hls_audit_watch.proofs.kept.KeptWatch.restart.Goals as goal

pub invariant_of-self : goal.invariant_of-self
invariant_of-self c =
    let width : c.restart.new.self.period ≡ c.self.inside.recent.period =
    ap (λ (r : Lately). r.period) c.restart.ensures in
    let v = c.self.invariant in
    (keeping_none c.self.inside.guarantee c.self.inside.ticks c.restart.new.self.period
    (record { from = 0; place = 0; broken = c.self.inside.cuts.broken; free = 0 }) c.restart.new.self.list
    v.valid v.few
    (subst (λ w. (n : ℕ) → n ≤ c.self.inside.ticks → IsPeriodOf c.self.inside.guarantee w n) (sym width)
    v.period)
    (subst (λ w. HasPlaces c.self.inside.guarantee w (length c.self.inside.cuts.broken.items)) (sym width)
    v.room)
    (subst (λ w. 1 ≤ w) (sym width) v.some) refl refl refl
    (ap (λ (r : Lately). r.list) c.restart.ensures))
