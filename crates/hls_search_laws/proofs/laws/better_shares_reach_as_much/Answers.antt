use Rattle.hls_search_laws.proofs.Ends.{reach-better}
use Rattle.hls_search_laws.proofs.laws.better_shares_reach_as_much.Goals as goal

pub returns : goal.returns
returns c = λ chain r.
    let a = c.args in reach-better chain a.s a.d a.rate a.error a.h c.requires r
