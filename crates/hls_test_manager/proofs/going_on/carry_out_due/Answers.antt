use Rattle.std.proofs.Common.{◌∙◌}
use Rattle.hls_top.proofs.Cores.{still_runs, fewer}
use Rattle.hls_test_manager.proofs.going_on.carry_out_due.Goals as goal

pub command_anyway-requires : goal.command_anyway-requires
command_anyway-requires g c = still_runs _ c.args.core.now c.loop.core c.loop.invariant.on c.requires.runs

pub loop-smaller : goal.loop-smaller
loop-smaller g c =
    fewer _ c.loop.core c.command_anyway.new.core
    (still_runs _ c.loop.core c.command_anyway.new.core c.command_anyway.ensures.is
    (still_runs _ c.args.core.now c.loop.core c.loop.invariant.on c.requires.runs))
    c.command_anyway.ensures.scenario (c.in_ok-command_anyway.ensures.carried c.if-branch.true)

pub loop-preserved : goal.loop-preserved
loop-preserved g c = record {
  on = λ s given boxes is. c.command_anyway.ensures.is s given boxes (c.loop.invariant.on s given boxes is);
  ticks = c.command_anyway.ensures.ticks ∙ c.loop.invariant.ticks;
  scenario = c.command_anyway.ensures.scenario ∙ c.loop.invariant.scenario;
}

pub returns-clause-is : goal.returns-clause-is
returns-clause-is g c = λ s given boxes is.
    c.command_anyway.ensures.is s given boxes (c.loop.invariant.on s given boxes is)
