use Rattle.hls_order.proofs.Replaying.{empty}
use Rattle.hls_order.proofs.order.Order.new.Goals as goal

pub invariant_of-result : goal.invariant_of-result
invariant_of-result c = empty
