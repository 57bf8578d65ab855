use Rattle.std.proofs.Common.{◌≡◌, ℕ, ◌≤◌, length, ap, sym, subst, ◌∙◌, refl}
use Rattle.hls_audit_watch.specs.Inside.Lately.{Lately}
use Rattle.hls_audit_watch.specs.Inside.Carried.{HasPlaces}
use Rattle.hls_audit_watch.specs.Inside.Periods.{IsPeriodOf}
use Rattle.hls_audit_watch.proofs.Watching.{keeping_none}
use Rattle.hls_audit_watch.proofs.kept.KeptWatch.new.Goals as goal

pub invariant_of-result : goal.invariant_of-result
invariant_of-result c =
    let width : c.in_ok-recent.recent.period ≡ c.period_of-period.result =
    ap (λ (r : Lately). r.period) c.in_ok-recent.ensures in
    let long : length c.in_ok-broken.broken.items ≡ c.places_of-places.result =
    sym c.in_ok-broken.broken.ok.0 ∙ c.in_ok-broken.ensures.len in
    let period : (n : ℕ) → n ≤ c.args.ticks → IsPeriodOf c.args.guarantee.now c.in_ok-recent.recent.period n =
    subst (λ w. (n : ℕ) → n ≤ c.args.ticks → IsPeriodOf c.args.guarantee.now w n) (sym width)
    c.period_of-period.ensures.period in
    let room : HasPlaces c.args.guarantee.now c.in_ok-recent.recent.period (length c.in_ok-broken.broken.items) =
    subst (λ w. HasPlaces c.args.guarantee.now w (length c.in_ok-broken.broken.items)) (sym width)
    (subst (λ n. HasPlaces c.args.guarantee.now c.period_of-period.result n) (sym long) c.places_of-places.ensures) in
    let some : 1 ≤ c.in_ok-recent.recent.period = subst (λ w. 1 ≤ w) (sym width) c.period_of-period.ensures.some in
    keeping_none c.args.guarantee.now c.args.ticks c.in_ok-recent.recent.period
    (record { from = 0; place = 0; broken = c.in_ok-broken.broken; free = 0 }) c.in_ok-recent.recent.list
    c.requires.valid c.requires.few period room some refl refl refl
    (ap (λ (r : Lately). r.list) c.in_ok-recent.ensures)
