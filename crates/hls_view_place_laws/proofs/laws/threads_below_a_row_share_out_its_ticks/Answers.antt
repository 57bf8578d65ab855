use Rattle.hls_view_place_laws.proofs.Shares.{column-of-leaves}
use Rattle.hls_view_place_laws.proofs.laws.threads_below_a_row_share_out_its_ticks.Goals as goal

pub returns : goal.returns
returns c = column-of-leaves
