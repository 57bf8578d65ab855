use Rattle.hls_view_place_laws.proofs.Ticks.{tick-given}
use Rattle.hls_view_place_laws.proofs.laws.each_path_names_a_way.Goals as goal

pub returns : goal.returns
returns c = tick-given
