use Rattle.std.proofs.Common.{◌≡◌, ◌<◌, ◌≤◌, ◌∙◌, arith, length, subst, sym}
use Rattle.hls_report_text.specs.declared.report.Answered.{Answered}
use Rattle.hls_view_tale.specs.Inside.Came.{IsAlike}
use Rattle.hls_view_tale.specs.Inside.Told.{IsTold}
use Rattle.hls_view_tale.proofs.Comings.{came_before, came_all, early_more}
use Rattle.hls_view_tale.proofs.Unseated.{alike_first, alike_next}
use Rattle.hls_view_tale.proofs.following.follow_to.Goals as goal

pub loop-place-init : goal.loop-place-init
loop-place-init c = record {
  told = c.requires.told;
  early = λ k a lt there. let before = c.requires.early k a lt there in omega (arith, before);
  same = λ none. alike_first c.args.answered.now c.args.first;
}

pub loop-place-preserved : goal.loop-place-preserved
loop-place-preserved c = record {
  told = c.in_ok-follow.ensures;
  early = early_more c.args.answered.now c.args.tick c.loop-place.place c.index-answered-place.result
      c.loop-place-test.true c.index-answered-place.is
      (subst (λ (a : Answered). a.tick ≤ c.args.tick) (sym c.index-answered-place.is) c.if-tick-answered.false)
      c.loop-place.invariant.early;
  same = alike_next c.args.answered.now c.args.first c.loop-place.place c.index-answered-place-in-loop-place.result
      c.loop-place.changed c.has_seated-changed.result c.loop-place-test.true
      c.index-answered-place-in-loop-place.is c.has_seated-changed.ensures
      c.loop-place.invariant.same;
}

pub returns-then-tick-answered : goal.returns-then-tick-answered
returns-then-tick-answered c =
    let came = came_before c.requires.answered.0 c.requires.answered.1 c.args.answered.now c.args.tick
    c.loop-place.place c.index-answered-place.result c.requires.answered.2 c.loop-place.invariant.early
    c.loop-place-test.true c.index-answered-place.is
    (subst (λ (a : Answered). c.args.tick < a.tick) (sym c.index-answered-place.is) c.if-tick-answered.true) in
    record {
      told = subst (IsTold c.loop-place.tale c.args.answered.now) came c.loop-place.invariant.told;
      came = came;
      before = λ k a lt there. let early = c.loop-place.invariant.early k a lt there in omega (arith, early);
      within = let lt = c.loop-place-test.true in omega (arith, lt);
      same = c.loop-place.invariant.same;
    }

pub returns : goal.returns
returns c =
    let past = c.loop-place-test.false in
    let end = c.loop-place.auto.place-end c.requires.within in
    let at : c.loop-place.place ≡ length c.args.answered.now = omega (arith, past, end) in
    let came = came_all c.args.answered.now c.args.tick c.loop-place.place c.loop-place.invariant.early past end in
    record {
      told = subst (IsTold c.loop-place.tale c.args.answered.now) came c.loop-place.invariant.told;
      came = sym at ∙ came;
      before = λ k a lt there.
          let early = c.loop-place.invariant.early k a (omega (arith, lt, at)) there in omega (arith, early);
      within = omega arith;
      same = λ none.
          subst (IsAlike c.args.answered.now c.args.first) at (c.loop-place.invariant.same none);
    }
