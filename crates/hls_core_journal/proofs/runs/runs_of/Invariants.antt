use Rattle.std.proofs.Common.{◌≡◌, ◌<◌, ◌++◌, length}
use Rattle.std.specs.Prelude.{All}
use Rattle.hls_core_journal.specs.declared.kept_rows.Row.{Row}
use Rattle.hls_core_journal.specs.Inside.Left.{left_rows}
use Rattle.hls_core_journal.specs.Inside.Rows.{runs_by}
use Rattle.hls_core_journal.proofs.runs.runs_of.Given as goal

abbrev pub invariant-loop-row : goal.invariant-loop-row
invariant-loop-row l = record {
  all : l.runs.items ++ runs_by l.ways (left_rows l.left) ≡ runs_by l.ways l.rows.items;
  known : All (λ (row : Row). row.way < length l.ways) (left_rows l.left);
}

abbrev pub decreases-loop-row : goal.decreases-loop-row
decreases-loop-row l = length (left_rows l.left)
