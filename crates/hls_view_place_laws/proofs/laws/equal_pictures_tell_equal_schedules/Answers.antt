use Rattle.hls_view_place_laws.proofs.Pictured.{same-drawn}
use Rattle.hls_view_place_laws.proofs.laws.equal_pictures_tell_equal_schedules.Goals as goal

pub returns : goal.returns
returns c = same-drawn
