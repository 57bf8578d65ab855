use Rattle.std.proofs.Common.{◌≡◌, ◌≤◌, length, take}
use Rattle.hls_view_table.specs.Tables.{trimmed}
use Rattle.hls_view_table.proofs.writing.trimmed_len.Given as goal

abbrev pub invariant-loop-len : goal.invariant-loop-len
invariant-loop-len l = record {
  within : l.len ≤ length l.text;
  same : trimmed (take l.len l.text) ≡ trimmed l.text;
}

abbrev pub decreases-loop-len : goal.decreases-loop-len
decreases-loop-len l = l.len
