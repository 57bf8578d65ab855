use Rattle.std.proofs.Common.{◌∙◌, ap, arith}
use Rattle.hls_scenario.specs.declared.scenario.Scenario.{Scenario}
use Rattle.hls_top.proofs.Cores.{still_runs}
use Rattle.hls_offer.proofs.moments.carry_to.Goals as goal

pub carry_out_due-requires : goal.carry_out_due-requires
carry_out_due-requires g c = record {
  runs = still_runs _ c.args.core.now c.loop-core.core c.loop-core.invariant.on c.requires.runs;
}

pub leap_to-requires-clause-runs : goal.leap_to-requires-clause-runs
leap_to-requires-clause-runs g c =
    still_runs _ c.args.core.now c.carry_out_due.new.core
    (λ s given boxes is. c.in_ok-carry_out_due.ensures.is s given boxes
    (c.loop-core.invariant.on s given boxes is)) c.requires.runs

pub leap_to-requires-clause-within : goal.leap_to-requires-clause-within
leap_to-requires-clause-within g c =
    let same = ap (λ (s : Scenario). s.horizon) (c.carry_out_due.ensures.scenario ∙ c.loop-core.invariant.scenario) in
    let early = c.requires.early in
    omega (arith, same, early)

pub loop-core-preserved : goal.loop-core-preserved
loop-core-preserved g c = record {
  on = λ s given boxes is. c.leap_to.ensures.is s given boxes
      (c.in_ok-carry_out_due.ensures.is s given boxes (c.loop-core.invariant.on s given boxes is));
  scenario = c.leap_to.ensures.scenario ∙ c.carry_out_due.ensures.scenario ∙ c.loop-core.invariant.scenario;
  behind = c.leap_to.ensures.within;
}

pub carry_out_due-requires-2 : goal.carry_out_due-requires-2
carry_out_due-requires-2 g c = record {
  runs = still_runs _ c.args.core.now c.loop-core.core c.loop-core.invariant.on c.requires.runs;
}

pub returns-clause-is : goal.returns-clause-is
returns-clause-is g c = λ s given boxes is.
    c.in_ok-carry_out_due-2.ensures.is s given boxes (c.loop-core.invariant.on s given boxes is)
