use Rattle.std.proofs.Common.{◌∙◌, ap, arith}
use Rattle.hls_scenario.specs.declared.scenario.Scenario.{Scenario}
use Rattle.hls_core.proofs.Tellings.{still_tells, tells_both, tells_tick, told_goes_on, told_within}
use Rattle.hls_core.proofs.telling.tell_all.Goals as goal

pub tell_due-requires : goal.tell_due-requires
tell_due-requires g c =
    still_tells _ c.args.core.now c.loop-core.core c.args.text.now.items c.loop-core.text.items
    c.loop-core.invariant.on c.requires

pub pass_along-requires-clause-may : goal.pass_along-requires-clause-may
pass_along-requires-clause-may g c =
    told_goes_on _ c.tell_due.new.core c.tell_due.new.text.items
    (still_tells _ c.args.core.now c.tell_due.new.core c.args.text.now.items c.tell_due.new.text.items
    (tells_both _ c.args.core.now c.loop-core.core c.tell_due.new.core c.args.text.now.items c.loop-core.text.items
    c.tell_due.new.text.items c.loop-core.invariant.on c.in_ok-tell_due.ensures.on) c.requires)

pub loop-core-preserved : goal.loop-core-preserved
loop-core-preserved g c = record {
  on = tells_both _ c.args.core.now c.loop-core.core c.pass_along.new.self c.args.text.now.items
      c.loop-core.text.items c.tell_due.new.text.items c.loop-core.invariant.on
      (tells_both _ c.loop-core.core c.tell_due.new.core c.pass_along.new.self c.loop-core.text.items
      c.tell_due.new.text.items c.tell_due.new.text.items c.in_ok-tell_due.ensures.on
      (tells_tick _ c.tell_due.new.core c.pass_along.new.self c.tell_due.new.text.items c.pass_along.ensures.is
      c.pass_along.ensures.answers));
  scenario = c.pass_along.ensures.scenario ∙ c.tell_due.ensures.scenario ∙ c.loop-core.invariant.scenario;
}

pub returns-clause-ended : goal.returns-clause-ended
returns-clause-ended g c =
    let early = told_within _ c.loop-core.core c.loop-core.text.items
    (still_tells _ c.args.core.now c.loop-core.core c.args.text.now.items c.loop-core.text.items
    c.loop-core.invariant.on c.requires) in
    let same = ap (λ (s : Scenario). s.horizon) c.loop-core.invariant.scenario in
    let now = c.now.ensures in
    let end = c.loop-core-test.false in
    omega (arith, early, same, now, end)
