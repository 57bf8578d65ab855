use Rattle.std.proofs.Common.{◌≡◌, ℕ, ◌+◌, ◌<◌, ◌≤◌, arith, subst}
use Rattle.std.specs.Prelude.{Option, min}
use Rattle.hls_audit_spans.specs.Spans.{Tell}
use Rattle.hls_releases.specs.Releases.{IsRelease}
use Rattle.hls_releases.proofs.Releases.{wake_is_release, release_later}
use Rattle.hls_audit_threads.specs.Inside.Lines.{IsUnused, end_or}
use Rattle.hls_audit_threads.proofs.ReleaseLaws.{filled_none, filled_on, filled_more, filled_all, burst_begins}
use Rattle.hls_audit_threads.proofs.lines.Periodic.fill.Goals.{else-from-reach-via-then-from-reach+else-reach-end}
use Rattle.hls_audit_threads.proofs.lines.Periodic.fill.Goals.{else-from-reach-via-else-from-reach}
use Rattle.hls_audit_threads.proofs.lines.Periodic.fill.Goals as goal

pub loop-used-init : goal.loop-used-init
loop-used-init c = record {
  order = omega arith;
  within = c.requires.order;
  release = λ lt. wake_is_release c.args.self.now.period c.args.self.now.since;
  filled = λ f g end tell le old same.
      filled_none f c.args.self.now.period c.args.self.now.ticks c.args.self.now.since c.requires.some
      c.requires.burst g c.args.until same c.args.ready.now.spans.items old;
}

-- the next burst begins where the one before it is over, unless an end comes before it
next_release : (period since used end until : ℕ) → IsRelease period since used → end ≡ min (used + period) until
    → end < until → IsRelease period since end
next_release period since used end until is e lt =
    let here : used + period ≡ end = omega (arith, e, lt) in
    subst (IsRelease period since) here (release_later period since used is)

pub loop-used-preserved-in_ok-add : goal.loop-used-preserved-in_ok-add
loop-used-preserved-in_ok-add c =
    let p = c.args.self.now in
    let used = c.in-Some.used in
    let end = c.end_of-end.result in
    let next = c.in-Some.ensures.release in
    record {
      order = omega arith;
      within = omega arith;
      release = next_release p.period p.since used end c.args.until next.is c.end_of-end.ensures;
      filled = λ f g wide tell le old same.
          let soon : end ≤ used + p.period = omega arith in
          let within : end ≤ c.args.until = omega arith in
          let from = c.loop-used.invariant.within in
          let unused : IsUnused f c.loop-used.release used =
          subst (λ (o : Option ℕ). IsUnused f c.loop-used.release (end_or c.args.until o)) c.in-Some.is
          (c.used.ensures.next f wide tell (omega arith) le) in
          filled_more f p.period p.ticks p.since c.requires.some c.requires.burst g c.args.until same
          c.loop-used.ready.spans.items c.add.new.self.spans.items c.loop-used.from c.loop-used.release used end
          c.reach_near-reach.result c.loop-used.invariant.release next unused soon within
          (c.reach_near-reach.ensures f wide tell (omega arith))
          (c.in_ok-add.ensures g (c.loop-used.invariant.filled f g wide tell le old same).tell)
          (c.loop-used.invariant.filled f g wide tell le old same);
    }

pub loop-used-preserved : goal.loop-used-preserved
loop-used-preserved c =
    let p = c.args.self.now in
    let used = c.in-Some.used in
    let end = c.end_of-end.result in
    let next = c.in-Some.ensures.release in
    let after = next.order in
    let before = next.within in
    let from = c.loop-used.invariant.order in
    record {
      order = omega arith;
      within = omega arith;
      release = next_release p.period p.since used end c.args.until next.is c.end_of-end.ensures;
      filled = λ f g wide tell le old same.
          let soon : end ≤ used + p.period = omega arith in
          let within : end ≤ c.args.until = omega arith in
          let lt : used < end = omega arith in
          let most = c.loop-used.invariant.within in
          let unused : IsUnused f c.loop-used.release used =
          subst (λ (o : Option ℕ). IsUnused f c.loop-used.release (end_or c.args.until o)) c.in-Some.is
          (c.used.ensures.next f wide tell (omega arith) le) in
          let reached = c.reach_near-reach.ensures f wide tell (omega arith) in
          let begins =
          burst_begins f p.period p.ticks p.since c.requires.some c.requires.burst g c.args.until same used end
          c.reach_near-reach.result lt reached in
          let whole : end ≤ c.reach_near-reach.result = elim c.else-from-reach.branch [
            | else-from-reach-via-then-from-reach+else-reach-end w ↦ w.if-reach-end.false
            | else-from-reach-via-else-from-reach w ↦
                let late = w.if-from-reach.false in absurd (omega (arith, late, begins, after, from))
          ] in
          filled_on f p.period p.ticks p.since c.requires.some c.requires.burst g c.args.until same
          c.loop-used.ready.spans.items c.loop-used.from c.loop-used.release used end
          c.reach_near-reach.result c.loop-used.invariant.release next unused soon within reached whole
          (c.loop-used.invariant.filled f g wide tell le old same);
    }

pub returns-in_ok-add-2 : goal.returns-in_ok-add-2
returns-in_ok-add-2 c = λ f g wide tell le old same.
    let p = c.args.self.now in
    let most = c.loop-used.invariant.within in
    let unused : IsUnused f c.loop-used.release c.args.until =
    subst (λ (o : Option ℕ). IsUnused f c.loop-used.release (end_or c.args.until o)) c.in_default.is
    (c.used.ensures.next f wide tell (omega arith) le) in
    let filled = c.loop-used.invariant.filled f g wide tell le old same in
    filled_all f p.period p.ticks p.since c.requires.some c.requires.burst g c.args.until same
    c.loop-used.ready.spans.items c.add-then-from-until.new.self.spans.items c.loop-used.from c.loop-used.release
    c.loop-used.invariant.release unused (c.in_ok-add-2.ensures g filled.tell) filled

pub returns-else-from-until : goal.returns-else-from-until
returns-else-from-until c = λ f g wide tell le old same.
    let filled = c.loop-used.invariant.filled f g wide tell le old same in
    let order = c.loop-used.invariant.order in
    let within = c.loop-used.invariant.within in
    let here : c.loop-used.from ≡ c.args.until = omega (arith, c.if-from-until.false, order, within) in
    subst (λ (n : ℕ). Tell g c.loop-used.ready.spans.items n) here filled.tell
