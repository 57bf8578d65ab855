use Rattle.std.proofs.Common.{◌≡◌, rules, arith, length, sym, Some, slice_set, get_or-set_same}
use Rattle.std.proofs.Common.{get_or-set_other, None, ap}
use Rattle.hls_order.specs.Order.{entry_of}
use Rattle.hls_order.proofs.Replaying.{begun}
use Rattle.hls_order.proofs.order.Order.put.Goals as goal

pub replay-requires-clause-right : goal.replay-requires-clause-right
replay-requires-clause-right c =
    let keys : length c.self.inside.keys ≡ 32 = search rules in
    let size : length c.self.inside.winners ≡ 63 = search rules in
    let few = c.requires in
    begun c.self.inside.keys (slice_set c.self.inside.keys c.args.slot (Some c.args.key)) c.self.inside.winners
    c.self.invariant c.args.slot c.args.slot few size
    (λ s ne. get_or-set_other c.self.inside.keys c.args.slot s (Some c.args.key) None ne)
    (ap (entry_of c.args.slot) (sym (get_or-set_same c.self.inside.keys c.args.slot (Some c.args.key) None
    (omega (arith, keys, few)))))
