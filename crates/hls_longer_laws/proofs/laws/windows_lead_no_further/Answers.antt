use Rattle.hls_longer_laws.proofs.Windows.{no_further}
use Rattle.hls_longer_laws.proofs.laws.windows_lead_no_further.Goals as goal

pub returns : goal.returns
returns c = λ implies.
    let a = c.args in no_further a.hard a.x a.y a.less a.times c.requires.from c.requires.some implies
