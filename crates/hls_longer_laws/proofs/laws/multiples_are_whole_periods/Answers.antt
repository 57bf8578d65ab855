use Rattle.hls_guarantee.proofs.Times.{most_times, times_of}
use Rattle.hls_longer_laws.proofs.laws.multiples_are_whole_periods.Goals as goal

pub returns : goal.returns
returns c =
    let a = c.args in
    (most_times a.x a.y a.less a.longer c.requires, times_of a.x a.y a.less a.longer c.requires)
