use Rattle.hls_longer_laws.proofs.Blocks.{enough, no_more}
use Rattle.hls_longer_laws.proofs.laws.blocks_give_exactly.Goals as goal

pub returns : goal.returns
returns c =
    let a = c.args in (
      no_more a.hard a.x a.y a.less a.longer c.requires.from,
      enough a.hard a.x a.y a.less a.longer c.requires.from c.requires.to,
    )
