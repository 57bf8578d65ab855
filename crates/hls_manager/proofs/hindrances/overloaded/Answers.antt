use Rattle.std.proofs.Common.{◌<◌, ◌≤◌, arith}
use Rattle.hls_manager.proofs.Outcomes.{reached_seated}
use Rattle.hls_manager.proofs.Askings.{levels_low, shares_few}
use Rattle.hls_manager.proofs.hindrances.overloaded.Goals as goal

pub returns-then-level-gt-LEVELS-clause-some : goal.returns-then-level-gt-LEVELS-clause-some
returns-then-level-gt-LEVELS-clause-some g c =
    let above : 8 < c.level_after-level.result = omega arith in
    λ h spot tree is. (
      c.requires.acyclic h tree,
      above,
      λ seat at. c.level_after-level.ensures h seat tree (reached_seated h is) at,
    )

pub returns-then-count-gt-SHARES-clause-some : goal.returns-then-count-gt-SHARES-clause-some
returns-then-count-gt-SHARES-clause-some g c =
    let low : c.level_after-level.result ≤ 8 = omega arith in
    let above : 4 < c.shares_after-count.result = omega arith in
    λ h spot tree is. (
      c.requires.acyclic h tree,
      levels_low h c.args.id c.args.seat.now.parent c.level_after-level.result low
          (λ seat at. c.level_after-level.ensures h seat tree (reached_seated h is) at),
      above,
      λ seat at. c.shares_after-count.ensures h seat tree (reached_seated h is) at,
    )

pub returns-clause-none : goal.returns-clause-none
returns-clause-none g c =
    let low : c.level_after-level.result ≤ 8 = omega arith in
    let few : c.shares_after-count.result ≤ 4 = omega arith in
    λ none h tree is. record {
      acyclic = c.requires.acyclic h tree;
      levels = levels_low h c.args.id c.args.seat.now.parent c.level_after-level.result low
          (λ seat at. c.level_after-level.ensures h seat tree (reached_seated h is) at);
      shares = shares_few h c.args.id c.args.seat.now.parent c.shares_after-count.result few
          (λ seat at. c.shares_after-count.ensures h seat tree (reached_seated h is) at);
    }
