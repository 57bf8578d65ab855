use Rattle.hls_view_margins.proofs.Taken.{spared_keeps}
use Rattle.hls_view_margins.proofs.laws.what_is_to_spare_may_be_taken_away.Goals as goal

pub returns : goal.returns
returns c = λ kept ready served left lo hi taken spare valid is cap few lacks.
    spared_keeps kept ready served left lo hi taken spare valid is cap few lacks
