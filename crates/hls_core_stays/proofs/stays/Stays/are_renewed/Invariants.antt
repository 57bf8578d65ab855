use Rattle.std.proofs.Common.{◌≡◌, ◌<◌, ◌+◌, ℕ, true}
use Rattle.std.specs.Prelude.{Some, slice_get}
use Rattle.hls_core_stays.specs.Inside.Steps.{fresh_at}
use Rattle.hls_core_stays.proofs.stays.Stays.are_renewed.Given as goal

abbrev pub invariant-loop-at : goal.invariant-loop-at
invariant-loop-at l = (i k : ℕ) → i < l.at → slice_get l.ids i ≡ Some k
    → fresh_at l.self.tallies.items (l.first + i) k l.now ≡ true
