use Rattle.std.proofs.Common.{◌≡◌, ◌<◌, ℕ, false}
use Rattle.hls_core_stays.specs.Tallies.{opened_at}
use Rattle.hls_core_stays.proofs.tallies.Tallies.search.Given as goal

abbrev pub invariant-loop-at : goal.invariant-loop-at
invariant-loop-at l = (at : ℕ) → at < l.at → opened_at l.self.items at l.id ≡ false
