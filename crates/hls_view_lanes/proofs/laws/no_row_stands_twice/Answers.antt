use Rattle.hls_view_lanes.proofs.RowLaws.{rows-apart}
use Rattle.hls_view_lanes.proofs.laws.no_row_stands_twice.Goals as goal

pub returns : goal.returns
returns c = rows-apart
