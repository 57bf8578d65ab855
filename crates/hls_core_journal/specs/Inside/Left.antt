-- Rows that are left to be read.
use Rattle.std.specs.Prelude.{List, ◌++◌, option_to_list}
use Rattle.hls_core_journal.specs.declared.kept_rows.Left.{Left}
use Rattle.hls_core_journal.specs.declared.kept_rows.Row.{Row}
use Rattle.hls_core_journal.specs.Inside.Shorts.{rows_closed}

-- the second of a pair comes first, and the last behind those that are closed
abbrev pub left_rows : Left → List Row
left_rows left =
    option_to_list left.partner
    ++ (rows_closed left.before left.shorts.now left.longs.now left.waiting ++ option_to_list left.last)
