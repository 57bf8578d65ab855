use Rattle.std.proofs.Common.{◌∙◌}
use Rattle.hls_core.proofs.Tellings.{still_tells, tells_both, told_fewer}
use Rattle.hls_core.proofs.telling.tell_due.Goals as goal

pub tell_command-requires : goal.tell_command-requires
tell_command-requires g c =
    still_tells _ c.args.core.now c.loop.core c.args.text.now.items c.loop.text.items c.loop.invariant.on c.requires

pub loop-smaller : goal.loop-smaller
loop-smaller g c =
    told_fewer _ c.loop.core c.tell_command.new.core c.tell_command.new.text.items
    (still_tells _ c.args.core.now c.tell_command.new.core c.args.text.now.items c.tell_command.new.text.items
    (tells_both _ c.args.core.now c.loop.core c.tell_command.new.core c.args.text.now.items c.loop.text.items
    c.tell_command.new.text.items c.loop.invariant.on c.in_ok-tell_command.ensures.on) c.requires)
    c.tell_command.ensures.scenario (c.in_ok-tell_command.ensures.carried c.if-branch.true)

pub loop-preserved : goal.loop-preserved
loop-preserved g c = record {
  on = tells_both _ c.args.core.now c.loop.core c.tell_command.new.core c.args.text.now.items c.loop.text.items
      c.tell_command.new.text.items c.loop.invariant.on c.in_ok-tell_command.ensures.on;
  ticks = c.tell_command.ensures.ticks ∙ c.loop.invariant.ticks;
  scenario = c.tell_command.ensures.scenario ∙ c.loop.invariant.scenario;
}

pub returns-clause-on : goal.returns-clause-on
returns-clause-on g c =
    tells_both _ c.args.core.now c.loop.core c.tell_command.new.core c.args.text.now.items c.loop.text.items
    c.tell_command.new.text.items c.loop.invariant.on c.in_ok-tell_command.ensures.on
