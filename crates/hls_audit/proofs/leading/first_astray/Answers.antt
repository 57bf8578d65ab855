use Rattle.std.proofs.Common.{refl, ℕ, ◌+◌, ◌<◌, ◌≤◌, subst, List, arith}
use Rattle.std.specs.Prelude.{slice_get}
use Rattle.hls_report_text.specs.declared.report.Answered.{Answered}
use Rattle.hls_report_text.specs.Content.{content_of}
use Rattle.hls_audit_clauses.specs.Clauses.{IsAstray}
use Rattle.hls_audit.specs.Inside.Leading.{IsAbreast, tick_or, end_or}
use Rattle.hls_audit.proofs.Abreast.{abreast_none, reach_first, tree_here}
use Rattle.hls_audit.proofs.Abreast.{abreast_later, reached_later, none_until, moment_later}
use Rattle.hls_audit_threads.proofs.Deciding.{is_not, none_more}
use Rattle.hls_audit.proofs.Firsts.{astray_early}
use Rattle.hls_audit_threads.proofs.Deciding.{nowhere}
use Rattle.hls_audit_threads.proofs.Formed.{are_in_order}
use Rattle.hls_audit.proofs.leading.first_astray.Goals as goal

pub loop-tick-init : goal.loop-tick-init
loop-tick-init c =
    let content = content_of c.args.report.now in record {
      abreast = abreast_none content.answered c.new-tree.result.members.items c.new-tree.ensures;
      reached = reach_first content c.args.report.now.names c.args.report.now.runs c.requires.content refl;
      none = λ k lt. absurd (omega (arith, lt));
      followed = c.in_ok-followed.ensures c.new-tree.result.members.items c.args.report.now.names;
    }

pub follow_tick-requires-clause-order : goal.follow_tick-requires-clause-order
follow_tick-requires-clause-order c =
    are_in_order (content_of c.args.report.now) c.items.result.now c.requires.content c.items.ensures

pub is_astray-requires-clause-followed : goal.is_astray-requires-clause-followed
is_astray-requires-clause-followed c =
    c.keep.ensures c.loop-tick.tree.members.items c.follow_tick.new.tree.members.items c.args.report.now.names
    c.in_ok-upto.ensures.1 c.loop-tick.invariant.followed

pub is_astray-requires-clause-tree : goal.is_astray-requires-clause-tree
is_astray-requires-clause-tree c =
    tree_here c.args.report.now.answered c.loop-tick.tick (c.loop-tick.tick + 1) c.in_ok-upto.upto
    c.follow_tick.new.tree.members.items refl
    (subst (λ (l : List Answered). IsAbreast l (c.loop-tick.tick + 1) c.in_ok-upto.upto
    c.follow_tick.new.tree.members.items) c.items.ensures c.in_ok-upto.ensures.0)

pub returns-then-is_astray : goal.returns-then-is_astray
returns-then-is_astray c = record {
  here = c.is_astray.ensures.astray.0 c.if-is_astray.true;
  earliest = c.loop-tick.invariant.none;
}

pub returns : goal.returns
returns c =
    let content = content_of c.args.report.now in
    nowhere (IsAstray content) c.loop-tick.tick content.horizon c.loop-tick-test.false c.loop-tick.invariant.none
    (λ t. astray_early content t c.requires.content)

-- up to this tick, once it is looked at
none_now : (c : goal.After-min-tick) → (k : ℕ) → k < c.loop-tick.tick + 1
    → ¬ IsAstray (content_of c.args.report.now) k
none_now c =
    let content = content_of c.args.report.now in
    let tick = c.loop-tick.tick in
    none_more (IsAstray content) tick c.loop-tick.invariant.none
    (is_not c.is_astray.result c.is_astray.ensures.astray c.if-is_astray.false)

-- the next tick that is looked at
later : (c : goal.After-min-tick) → c.loop-tick.tick < c.min-tick.result
later c =
    let content = content_of c.args.report.now in
    let tick = c.loop-tick.tick in
    let more = subst (λ (l : List Answered). IsAbreast l (tick + 1) c.in_ok-upto.upto
    c.follow_tick.new.tree.members.items) c.items.ensures c.in_ok-upto.ensures.0 in
    let is = c.min-tick.ensures in
    let calm = c.command_tick.ensures in
    let lasts = c.run_end.ensures in
    let moment = moment_later content.answered c.args.report.now.runs tick c.in_ok-upto.upto c.run_of-at.result
    content.horizon c.follow_tick.new.tree.members.items c.loop-tick-test.true more c.run_of-at.ensures in
    omega (arith, is, calm, lasts, moment)

pub loop-tick-smaller : goal.loop-tick-smaller
loop-tick-smaller c =
    let more = later c in
    let early = c.loop-tick-test.true in omega (arith, more, early)

pub loop-tick-preserved : goal.loop-tick-preserved
loop-tick-preserved c =
    let r = c.args.report.now in
    let content = content_of r in
    let tick = c.loop-tick.tick in
    let more = subst (λ (l : List Answered). IsAbreast l (tick + 1) c.in_ok-upto.upto
    c.follow_tick.new.tree.members.items) c.items.ensures c.in_ok-upto.ensures.0 in
    let order = are_in_order content content.answered c.requires.content refl in
    let is = c.min-tick.ensures in
    let calm_is = c.command_tick.ensures in
    let lasts_is = c.run_end.ensures in
    let passes = later c in
    let calm : c.min-tick.result ≤ tick_or content.horizon (slice_get content.answered c.in_ok-upto.upto) =
    omega (arith, is, calm_is) in
    let lasts : c.min-tick.result ≤ end_or content.horizon (slice_get r.runs c.run_of-at.result) =
    omega (arith, is, lasts_is) in record {
      abreast = abreast_later content.answered (tick + 1) c.in_ok-upto.upto c.min-tick.result content.horizon
          c.follow_tick.new.tree.members.items order (omega (arith, passes)) calm more;
      reached = reached_later r.runs (tick + 1) c.run_of-at.result c.min-tick.result content.horizon
          (omega (arith, passes)) lasts c.run_of-at.ensures;
      none = none_until content r.names r.runs tick c.in_ok-upto.upto c.run_of-at.result c.min-tick.result
          c.follow_tick.new.tree.members.items c.requires.content order refl calm lasts more c.run_of-at.ensures
          (none_now c);
      followed = c.is_astray.ensures.followed;
    }
