use Rattle.hls_longer_laws.proofs.Blocks.{no_further}
use Rattle.hls_longer_laws.proofs.laws.blocks_lead_no_further.Goals as goal

pub returns : goal.returns
returns c = λ implies.
    let a = c.args in (
      c.requires.within,
      no_further a.hard a.x a.y a.less a.longer c.requires.from c.requires.within c.requires.to.some implies,
    )
