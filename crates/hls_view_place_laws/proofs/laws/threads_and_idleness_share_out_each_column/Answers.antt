use Rattle.hls_view_place_laws.proofs.Shares.{column-shared}
use Rattle.hls_view_place_laws.proofs.laws.threads_and_idleness_share_out_each_column.Goals as goal

pub returns : goal.returns
returns c = column-shared
