use Rattle.std.proofs.Common.{◌≡◌, ℕ, ◌<◌, length}
use Rattle.hls_order.specs.Order.{key_of}
use Rattle.hls_sfq.specs.Choice.{tag_asking}
use Rattle.hls_sfq.proofs.queue.place_all.Given as goal

abbrev pub invariant-loop-slot : goal.invariant-loop-slot
invariant-loop-slot l = record {
  size : length l.queue ≡ 32;
  placed : (slot : ℕ) → slot < l.slot → key_of l.queue slot ≡ tag_asking l.time l.seats l.mask slot;
}
