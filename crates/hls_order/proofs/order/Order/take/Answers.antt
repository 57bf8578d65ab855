use Rattle.std.proofs.Common.{◌≡◌, rules, arith, length, sym, slice_set, get_or-set_same, get_or-set_other, None, ap}
use Rattle.hls_order.specs.Order.{entry_of}
use Rattle.hls_order.proofs.Replaying.{begun}
use Rattle.hls_order.proofs.order.Order.take.Goals as goal

pub replay-requires-clause-right : goal.replay-requires-clause-right
replay-requires-clause-right c =
    let keys : length c.self.inside.keys ≡ 32 = search rules in
    let size : length c.self.inside.winners ≡ 63 = search rules in
    let few = c.requires in
    begun c.self.inside.keys (slice_set c.self.inside.keys c.args.slot None) c.self.inside.winners
    c.self.invariant c.args.slot 32 few size
    (λ s ne. get_or-set_other c.self.inside.keys c.args.slot s None None ne)
    (ap (entry_of c.args.slot) (sym (get_or-set_same c.self.inside.keys c.args.slot None None
    (omega (arith, keys, few)))))
