use Rattle.std.proofs.Common.{◌≡◌, true, false, ◌∙◌, sym, ap, arith}
use Rattle.hls_legal.specs.Commands.{has_done, rouses}
use Rattle.hls_chron.specs.Ticks.{one_if}
use Rattle.hls_view_jobs.specs.declared.job.Sort.{Sort}
use Rattle.hls_view_jobs.specs.Words.{is_end, is_wake, sort_of}
use Rattle.hls_view_jobs.proofs.WordLaws.{wakes_end, wakes_more, wakes_less, wakes_none}
use Rattle.hls_view_jobs.proofs.words.wakes_on.Goals.{then-has_roused+else-is_end, else-has_roused}
use Rattle.hls_view_jobs.proofs.words.wakes_on.Goals as goal

pub returns-then-is_end : goal.returns-then-is_end
returns-then-is_end c =
    let a = c.index-answered-at.result in
    let roused : has_done (rouses c.args.name.now) a ≡ true = sym c.has_roused.ensures ∙ c.if-has_roused.true in
    let sort : c.sort_of-sort.result ≡ sort_of a.command = c.sort_of-sort.ensures in
    let end : is_end (sort_of a.command) ≡ true = sym (ap is_end sort) ∙ sym c.is_end.ensures ∙ c.if-is_end.true in
    let none = wakes_end c.args.name.now c.args.answered.now c.loop-at.at a c.loop-at-test.true c.index-answered-at.is
    roused end in
    let so_far = c.loop-at.invariant.wakes in
    omega (arith, none, so_far)

pub loop-at-preserved : goal.loop-at-preserved
loop-at-preserved c =
    let a = c.index-answered-at.result in
    let so_far = c.loop-at.invariant.wakes in
    let few = c.loop-at.invariant.few in
    elim c.if-has_roused.branch [
      | then-has_roused+else-is_end w ↦
          let roused : has_done (rouses c.args.name.now) a ≡ true = sym c.has_roused.ensures ∙ w.if-has_roused.true in
          let sort : w.sort_of-sort.result ≡ sort_of a.command = w.sort_of-sort.ensures in
          let more : is_end (sort_of a.command) ≡ false =
          sym (ap is_end sort) ∙ sym w.is_end.ensures ∙ w.if-is_end.false in
          let next = wakes_more c.args.name.now c.args.answered.now c.loop-at.at a c.loop-at-test.true
          c.index-answered-at.is roused more in
          let one : w.wakes-wakes.result ≡ one_if (is_wake (sort_of a.command)) =
          w.wakes-wakes.ensures.is ∙ ap (λ (s : Sort). one_if (is_wake s)) sort in
          let most = w.wakes-wakes.ensures.few in
          let is = w.wakes-is in
          record { wakes = omega (arith, so_far, next, one, is); few = omega (arith, few, most, is) }
      | else-has_roused w ↦
          let quiet : has_done (rouses c.args.name.now) a ≡ false = sym c.has_roused.ensures ∙ w.if-has_roused.false in
          let next = wakes_less c.args.name.now c.args.answered.now c.loop-at.at a c.loop-at-test.true
          c.index-answered-at.is quiet in
          let is = w.wakes-is in
          record { wakes = omega (arith, so_far, next, is); few = omega (arith, few, is) }
    ]

pub returns : goal.returns
returns c =
    let none = wakes_none c.args.name.now c.args.answered.now c.loop-at.at c.loop-at-test.false in
    let so_far = c.loop-at.invariant.wakes in
    omega (arith, none, so_far)
