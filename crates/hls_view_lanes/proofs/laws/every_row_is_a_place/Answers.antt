use Rattle.hls_view_lanes.proofs.RowLaws.{rows-are-ways}
use Rattle.hls_view_lanes.proofs.laws.every_row_is_a_place.Goals as goal

pub returns : goal.returns
returns c = rows-are-ways
