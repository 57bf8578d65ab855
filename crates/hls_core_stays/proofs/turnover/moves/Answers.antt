use Rattle.std.proofs.Common.{ap}
use Rattle.hls_machine.specs.Steps.{is_thread}
use Rattle.hls_core_stays.proofs.Alone.{thread_told, alone_below}
use Rattle.hls_core_stays.proofs.turnover.moves.Goals as goal

pub returns-in-Thread : goal.returns-in-Thread
returns-in-Thread g c = λ h tree. (
  c.in-Some.ensures.some h tree,
  ap is_thread (thread_told (h.nodes c.in-Some.id) (c.in-Thread.ensures h tree)).there,
  alone_below _ c.args.tree.now c.in-Some.id c.requires c.in-Thread.ensures h tree,
)
