use Rattle.std.proofs.Common.{refl}
use Rattle.hls_core_stays.proofs.Turned.{same_stays}
use Rattle.hls_core_stays.proofs.stays.Stays.settle.Goals as goal

pub returns : goal.returns
returns c = λ h are. same_stays c.drop_spent.new.self _ refl refl h (c.drop_spent.ensures h are)
