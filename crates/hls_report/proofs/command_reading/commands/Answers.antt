use Rattle.std.proofs.Common.{◌-◌, sym, subst}
use Rattle.hls_report.proofs.CommandSteps.{CommandsRead, no_commands, one_more_command}
use Rattle.hls_report.proofs.command_reading.commands.Goals as goal

pub loop-answered-init : goal.loop-answered-init
loop-answered-init c =
    subst (λ ps. CommandsRead c.args.version c.args.horizon ps 0 65536 c.args.lines.now c.args.lines.now)
    (sym c.new-answered.ensures.items) (no_commands c.args.version c.args.horizon c.args.lines.now)

pub loop-answered-preserved : goal.loop-answered-preserved
loop-answered-preserved c =
    let left = c.loop-answered.left in
    subst (λ ps. CommandsRead c.args.version c.args.horizon ps c.in-Some.one.tick (left - 1) c.args.lines.now
    c.next_command.new.lines) (sym c.in_ok-keep_answered.ensures)
    (one_more_command c.args.version c.args.horizon c.loop-answered.last left c.loop-answered.answered.items
    c.in-Some.one
    c.args.lines.now c.loop-answered.lines c.next_command.new.lines c.loop-answered.invariant
    (rw c.in-Some.is at c.in_ok-one.ensures.ok))
