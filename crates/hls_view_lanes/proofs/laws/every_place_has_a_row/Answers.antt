use Rattle.hls_view_lanes.proofs.RowLaws.{ways-have-rows}
use Rattle.hls_view_lanes.proofs.laws.every_place_has_a_row.Goals as goal

pub returns : goal.returns
returns c = ways-have-rows
