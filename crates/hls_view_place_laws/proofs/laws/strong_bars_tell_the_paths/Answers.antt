use Rattle.hls_view_place_laws.proofs.Pictured.{drawing-tells}
use Rattle.hls_view_place_laws.proofs.laws.strong_bars_tell_the_paths.Goals as goal

pub returns : goal.returns
returns c = drawing-tells
