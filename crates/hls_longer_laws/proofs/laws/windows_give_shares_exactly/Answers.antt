use Rattle.hls_longer_laws.proofs.Shares.{windows_enough, windows_no_more}
use Rattle.hls_longer_laws.proofs.laws.windows_give_shares_exactly.Goals as goal

pub returns : goal.returns
returns c =
    let a = c.args in
    (windows_no_more a.hard a.x a.y a.s a.d c.requires, windows_enough a.hard a.x a.y a.s a.d c.requires)
