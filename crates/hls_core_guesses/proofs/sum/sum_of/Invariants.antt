use Rattle.std.proofs.Common.{◌≡◌, take}
use Rattle.hls_core_guesses.specs.Sums.{sum_over}
use Rattle.hls_core_guesses.proofs.sum.sum_of.Given as goal

abbrev pub invariant-loop-letter : goal.invariant-loop-letter
invariant-loop-letter l = l.sum ≡ sum_over l.number (take l.letter-index l.letters)
