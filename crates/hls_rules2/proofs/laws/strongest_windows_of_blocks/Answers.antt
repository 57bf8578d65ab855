use Rattle.hls_rules2.proofs.Answering.{blocks-have, have-blocks}
use Rattle.hls_rules2.proofs.laws.strongest_windows_of_blocks.Goals as goal

pub returns : goal.returns
returns c =
    let a = c.args in
    (blocks-have a.hard a.x a.y a.h c.requires, have-blocks a.hard a.x a.y a.h c.requires)
