use Rattle.hls_longer_laws.proofs.Shares.{blocks_enough, blocks_no_more}
use Rattle.hls_longer_laws.proofs.laws.blocks_give_shares_exactly.Goals as goal

pub returns : goal.returns
returns c =
    let a = c.args in
    (blocks_no_more a.hard a.x a.y a.s a.d c.requires, blocks_enough a.hard a.x a.y a.s a.d c.requires)
