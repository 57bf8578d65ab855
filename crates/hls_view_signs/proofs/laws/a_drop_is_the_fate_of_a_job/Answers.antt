use Rattle.hls_view_signs.proofs.FateLaws.{drop_is_fate}
use Rattle.hls_view_signs.proofs.laws.a_drop_is_the_fate_of_a_job.Goals as goal

pub returns : goal.returns
returns c = drop_is_fate
