use Rattle.std.proofs.Common.{refl}
use Rattle.hls_core_stays.proofs.Turned.{same_stays}
use Rattle.hls_core_stays.proofs.stays.Stays.reserve.Goals as goal

pub returns-in_err-reserve-clause-same : goal.returns-in_err-reserve-clause-same
returns-in_err-reserve-clause-same c = λ h are.
    same_stays c.drop_spent.new.self _ c.reserve.ensures.items refl h (c.drop_spent.ensures h are)

pub returns-clause-same : goal.returns-clause-same
returns-clause-same c = λ h are.
    same_stays c.drop_spent.new.self _ c.reserve.ensures.items refl h (c.drop_spent.ensures h are)
