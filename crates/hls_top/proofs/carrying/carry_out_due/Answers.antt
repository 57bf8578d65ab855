use Rattle.std.proofs.Common.{◌∙◌}
use Rattle.hls_top.proofs.Cores.{still_runs, fewer}
use Rattle.hls_top.proofs.carrying.carry_out_due.Goals as goal

pub command-requires : goal.command-requires
command-requires g c = still_runs _ c.args.core.now c.loop.core c.loop.invariant.on c.requires.runs

pub loop-smaller : goal.loop-smaller
loop-smaller g c =
    fewer _ c.loop.core c.command.new.self
    (still_runs _ c.loop.core c.command.new.self c.command.ensures.is
    (still_runs _ c.args.core.now c.loop.core c.loop.invariant.on c.requires.runs))
    c.command.ensures.scenario (c.in_ok-command.ensures.carried c.if-branch.true).next

pub loop-preserved : goal.loop-preserved
loop-preserved g c = record {
  on = λ s given boxes is. c.command.ensures.is s given boxes (c.loop.invariant.on s given boxes is);
  ticks = c.command.ensures.ticks ∙ c.loop.invariant.ticks;
  scenario = c.command.ensures.scenario ∙ c.loop.invariant.scenario;
}

pub returns-clause-is : goal.returns-clause-is
returns-clause-is g c = λ s given boxes is.
    c.command.ensures.is s given boxes (c.loop.invariant.on s given boxes is)
