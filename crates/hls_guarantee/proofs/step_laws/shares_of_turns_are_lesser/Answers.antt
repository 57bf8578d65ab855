use Rattle.hls_guarantee.proofs.Lendings.{turn-at_most, turn-later}
use Rattle.hls_guarantee.proofs.step_laws.shares_of_turns_are_lesser.Goals as goal

pub returns : goal.returns
returns c =
    let a = c.args in (
      turn-at_most a.quantum a.s a.d a.rate a.error c.requires,
      turn-later a.quantum a.s a.d a.rate a.error c.requires,
    )
