use Rattle.hls_guarantee.proofs.Lendings.{fair-at_most, fair-later}
use Rattle.hls_guarantee.proofs.step_laws.fair_shares_are_lesser.Goals as goal

pub returns : goal.returns
returns c =
    let a = c.args in
    let some = c.requires.weight in
    let share = c.requires.share in (
      fair-at_most a.sharing a.weight a.s a.d a.rate a.error some share,
      fair-later a.sharing a.weight a.s a.d a.rate a.error some share,
    )
