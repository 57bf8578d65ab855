use Rattle.std.proofs.Common.{◌≡◌, ◌≤◌, ℕ, ◌<◌, None, length, get_or}
use Rattle.hls_sfq.specs.Changes.{fresh_seat}
use Rattle.hls_sfq.proofs.shares.settle_all.Given as goal

abbrev pub invariant-loop-slot : goal.invariant-loop-slot
invariant-loop-slot l = record {
  length : length l.seats ≡ 32;
  past : (k : ℕ) → k < l.slot → get_or l.seats k None ≡ fresh_seat l.quantum l.time (get_or l.initial.seats k None);
  rest : (k : ℕ) → l.slot ≤ k → get_or l.seats k None ≡ get_or l.initial.seats k None;
}
