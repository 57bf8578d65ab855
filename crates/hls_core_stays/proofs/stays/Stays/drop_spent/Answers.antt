use Rattle.std.proofs.Common.{refl}
use Rattle.hls_core_stays.proofs.Swept.{swept_same}
use Rattle.hls_core_stays.proofs.stays.Stays.drop_spent.Goals as goal

pub returns-then-self-most : goal.returns-then-self-most
returns-then-self-most c = swept_same c.args.self.now _ c.args.self.now.fresh c.sweep.ensures refl
