use Rattle.std.proofs.Common.{◌≡◌, ℕ, suc, ◌+◌, ◌-◌, ◌/◌, ◌<◌, subst, arith}
use Rattle.std.specs.Prelude.{Some}
use Rattle.hls_view_jobs.specs.declared.job.Sort.TheVariants.{Wakes}
use Rattle.hls_view_jobs.proofs.AgainLaws.{IsPutTo, put_next}
use Rattle.hls_view_jobs.proofs.words.put_again.Goals as goal

pub loop-done-preserved : goal.loop-done-preserved
loop-done-preserved c =
    let r = c.args.repeat.now in
    let many : ℕ = c.saturating_sub.result / r.period in
    let lt : c.loop-done.done < many = c.loop-done-test.true in
    let one : many - c.loop-done.done ≡ suc (many - (c.loop-done.done + 1)) = omega (arith, lt) in
    put_next c.args.words.now.items c.loop-done.words.items c.push.new.self.items many r.period c.args.tick
    c.loop-done.at (many - (c.loop-done.done + 1)) (Wakes (Some r.ticks)) c.in_ok-push.ensures.items
    (subst (IsPutTo c.args.words.now.items many r.period c.args.tick (Wakes (Some r.ticks)) c.loop-done.words.items
    c.loop-done.at) one c.loop-done.invariant)
