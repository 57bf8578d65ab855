use Rattle.std.proofs.Common.{◌≡◌, ◌≤◌, ◌*◌, ◌^◌, take, sum}
use Rattle.hls_view_picture_rows.proofs.rows.total.Given as goal

abbrev pub invariant-loop-count : goal.invariant-loop-count
invariant-loop-count l = (l.total ≡ sum (take l.count-index l.counts)) × (l.total ≤ 2 ^ 32 * l.count-index)
