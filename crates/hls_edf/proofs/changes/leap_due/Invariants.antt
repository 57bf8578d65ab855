use Rattle.std.proofs.Common.{◌≡◌, ℕ, ◌<◌, ◌≤◌, ◌-◌, true, false, is_some, length}
use Rattle.hls_chron.specs.Ledger.{now_of}
use Rattle.hls_chron.specs.Seats.{terms_at}
use Rattle.hls_kinds.specs.Asks.{slot_asks}
use Rattle.hls_edf.specs.Choice.{server_in}
use Rattle.hls_edf.specs.Changes.{leap_of}
use Rattle.hls_edf.specs.Inside.Calm.{IsCalm}
use Rattle.hls_edf.proofs.changes.leap_due.Given as goal

abbrev pub invariant-loop-slot : goal.invariant-loop-slot
invariant-loop-slot l = record {
  length : length l.servers ≡ 32;
  past : (k : ℕ) → k < l.slot → slot_asks l.calm.due k ≡ true → server_in l.servers k
      ≡ leap_of (server_in l.fn.servers k) (is_some (terms_at l.state.book k)) (slot_asks l.state.mask k)
      false (now_of l.state.book) l.ticks;
  others : (k : ℕ) → slot_asks l.calm.due k ≡ false → server_in l.servers k ≡ server_in l.fn.servers k;
  rest : (k : ℕ) → l.slot ≤ k → server_in l.servers k ≡ server_in l.fn.servers k;
  calm : (k t : ℕ) → k < l.slot → t < l.until → slot_asks l.calm.due k ≡ true
      → IsCalm (server_in l.servers k) (is_some (terms_at l.state.book k)) (slot_asks l.state.mask k) t;
  sooner : l.until ≤ l.calm.until;
  within : l.slot ≤ 32;
  asks : l.slot < 32 → slot_asks l.calm.due l.slot ≡ true;
}

abbrev pub decreases-loop-slot : goal.decreases-loop-slot
decreases-loop-slot l = 32 - l.slot
