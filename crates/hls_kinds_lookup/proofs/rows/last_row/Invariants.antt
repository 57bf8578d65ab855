use Rattle.std.proofs.Common.{◌≡◌, is_some}
use Rattle.hls_chron.specs.Ledger.{row_at}
use Rattle.hls_kinds.specs.Ticks.{last_of}
use Rattle.hls_kinds_lookup.proofs.rows.last_row.Given as goal

abbrev pub invariant-loop-k : goal.invariant-loop-k
invariant-loop-k l = l.last ≡ last_of (λ t. is_some (row_at l.book t).to) l.from l.k
