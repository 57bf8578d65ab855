use Rattle.std.proofs.Common.{◌≡◌, take}
use Rattle.hls_core_guesses.specs.Sums.{sum_over}
use Rattle.hls_core_journal.proofs.sums.sum_of.Given as goal

abbrev pub invariant-loop-place : goal.invariant-loop-place
invariant-loop-place l = l.sum ≡ sum_over 0 (take l.place-index l.places)
