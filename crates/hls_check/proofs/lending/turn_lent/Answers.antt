use Rattle.hls_check.proofs.TurnSizes.{turn_rate-fits, turn_waiting-fits, turn_error-fits, turn-share}
use Rattle.hls_check.proofs.lending.turn_lent.Goals as goal

pub mul-requires : goal.mul-requires
mul-requires c =
    let a = c.args in
    turn_rate-fits a.s.now a.d.now c.quotient-part.result c.requires.share c.quotient-part.ensures

pub add-requires : goal.add-requires
add-requires c =
    let a = c.args in
    turn_waiting-fits a.quantum a.s.now a.d.now c.quotient-others.result c.requires.config.1 c.requires.share
    c.quotient-others.ensures

pub mul-requires-2 : goal.mul-requires-2
mul-requires-2 c =
    let a = c.args in
    turn_error-fits a.quantum a.s.now a.d.now c.quotient-part.result c.quotient-others.result c.add.result
    c.requires.config.1 c.requires.share c.quotient-part.ensures c.quotient-others.ensures c.add.ensures

pub returns : goal.returns
returns c =
    let a = c.args in
    turn-share a.quantum a.s.now a.d.now c.quotient-part.result c.quotient-others.result c.add.result c.mul.result
    c.mul-2.result c.quotient-part.ensures c.quotient-others.ensures c.add.ensures c.mul.ensures c.mul-2.ensures
