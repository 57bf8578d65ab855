use Rattle.std.proofs.Common.{◌≡◌, ℕ, ◌+◌, sym, ◌∙◌, subst, arith}
use Rattle.hls_report_text.specs.Content.{content_of}
use Rattle.hls_legal.proofs.KeepingAccounts.{IsReadySince, since_first, since_next, since_anew, since_longest}
use Rattle.hls_test_accounts.proofs.windows.window_start.Goals as goal
use Rattle.hls_test_accounts.proofs.windows.window_start.Goals.{then-not-is_ready, else-not-is_ready}

pub loop-tick-init : goal.loop-tick-init
loop-tick-init c = since_first (content_of c.args.report.now) c.args.stay.now.name c.args.stay.now.since

pub loop-tick-preserved : goal.loop-tick-preserved
loop-tick-preserved c =
    let content = content_of c.args.report.now in
    let stay = c.args.stay.now in
    elim c.if-not-is_ready.branch [
      | then-not-is_ready w ↦
          subst (λ (n : ℕ). IsReadySince content stay.name stay.since n (c.loop-tick.tick + 1))
          (sym w.from-is)
          (since_anew content stay.name stay.since c.loop-tick.from c.loop-tick.tick c.loop-tick.invariant
          (sym c.is_ready.ensures ∙ w.if-not-is_ready.true))
      | else-not-is_ready w ↦
          subst (λ (n : ℕ). IsReadySince content stay.name stay.since n (c.loop-tick.tick + 1))
          (sym w.from-is)
          (since_next content stay.name stay.since c.loop-tick.from c.loop-tick.tick c.loop-tick.invariant
          (sym c.is_ready.ensures ∙ w.if-not-is_ready.false))
    ]

pub returns : goal.returns
returns c =
    let content = content_of c.args.report.now in
    let stay = c.args.stay.now in
    let most = c.loop-tick.auto.tick-end c.requires.begun in
    let least = c.loop-tick-test.false in
    let e : c.loop-tick.tick ≡ c.args.until = omega arith in
    since_longest content stay c.loop-tick.from c.args.until c.requires.within
    (subst (λ (t : ℕ). IsReadySince content stay.name stay.since c.loop-tick.from t) e c.loop-tick.invariant)
