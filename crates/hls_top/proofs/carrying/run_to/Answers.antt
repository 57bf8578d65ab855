use Rattle.std.proofs.Common.{◌∙◌, ap, arith}
use Rattle.hls_scenario.specs.declared.scenario.Scenario.{Scenario}
use Rattle.hls_top.proofs.Cores.{still_runs, within}
use Rattle.hls_top.proofs.carrying.run_to.Goals as goal

pub carry_out_due-requires : goal.carry_out_due-requires
carry_out_due-requires g c = record {
  runs = still_runs _ c.args.core.now c.loop-core.core c.loop-core.invariant.on c.requires.runs;
}

pub leap-requires-clause-runs : goal.leap-requires-clause-runs
leap-requires-clause-runs g c =
    still_runs _ c.args.core.now c.carry_out_due.new.core
    (λ s given boxes is. c.in_ok-carry_out_due.ensures.is s given boxes
    (c.loop-core.invariant.on s given boxes is)) c.requires.runs

pub loop-core-preserved : goal.loop-core-preserved
loop-core-preserved g c = record {
  on = λ s given boxes is. c.leap.ensures.is s given boxes
      (c.in_ok-carry_out_due.ensures.is s given boxes (c.loop-core.invariant.on s given boxes is));
  scenario = c.leap.ensures.scenario ∙ c.carry_out_due.ensures.scenario ∙ c.loop-core.invariant.scenario;
}

pub returns-clause-ended : goal.returns-clause-ended
returns-clause-ended g c =
    let early = within _ c.loop-core.core
    (still_runs _ c.args.core.now c.loop-core.core c.loop-core.invariant.on c.requires.runs) in
    let same = ap (λ (s : Scenario). s.horizon) c.loop-core.invariant.scenario in
    let horizon = c.requires.horizon in
    let now = c.now.ensures in
    let end = c.loop-core-test.false in
    omega (arith, early, same, horizon, now, end)
