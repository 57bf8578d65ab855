use Rattle.hls_view_margins.proofs.Caps.{room_keeps, cap_roomy}
use Rattle.hls_view_margins.proofs.laws.room_tells_whether_the_cap_is_kept.Goals as goal

pub returns : goal.returns
returns c = λ kept served lo hi room valid some is.
    (room_keeps kept served lo hi room valid some is, cap_roomy kept served lo hi room is)
