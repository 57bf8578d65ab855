use Rattle.hls_view_place_laws.proofs.laws.a_tale_tells_up_to_each_tick.Goals as goal

pub returns : goal.returns
returns c = λ content t tale clause u few le. tale clause u few
