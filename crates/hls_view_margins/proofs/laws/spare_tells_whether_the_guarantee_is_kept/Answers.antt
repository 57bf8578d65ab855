use Rattle.hls_view_margins.proofs.Whether.{fine_keeps, keeps_fine}
use Rattle.hls_view_margins.proofs.laws.spare_tells_whether_the_guarantee_is_kept.Goals as goal

pub returns : goal.returns
returns c = λ kept ready served lo hi spare valid is cap.
    (fine_keeps kept ready served lo hi spare valid is cap, keeps_fine kept ready served lo hi spare valid is)
