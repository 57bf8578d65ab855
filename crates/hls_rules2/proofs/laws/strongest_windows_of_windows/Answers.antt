use Rattle.hls_rules2.proofs.Answering.{windows-have, have-windows}
use Rattle.hls_rules2.proofs.laws.strongest_windows_of_windows.Goals as goal

pub returns : goal.returns
returns c =
    let a = c.args in
    (windows-have a.hard a.x a.y a.h c.requires, have-windows a.hard a.x a.y a.h c.requires)
