use Rattle.std.proofs.Common.{length}
use Rattle.hls_core_journal.specs.Inside.Left.{left_rows}
use Rattle.hls_core_journal.proofs.Lines.{WroteRows}
use Rattle.hls_core_journal.proofs.schedule.Schedule.write.Given as goal

abbrev pub invariant-loop-row : goal.invariant-loop-row
invariant-loop-row g l =
    WroteRows l.self.tails l.self.rows.items (left_rows l.left) (g.K.Sink.written l.fn.sink) (g.K.Sink.written l.sink)
    l.fn.room.items l.room.items (g.K.Sink.faults l.fn.sink) (g.K.Sink.faults l.sink)

abbrev pub decreases-loop-row : goal.decreases-loop-row
decreases-loop-row g l = length (left_rows l.left)
