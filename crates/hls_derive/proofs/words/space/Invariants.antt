use Rattle.std.proofs.Common.{◌≡◌, ◌+◌, drop}
use Rattle.hls_derive.specs.Inside.Reading.{place_of_space}
use Rattle.hls_derive.proofs.words.space.Given as goal

abbrev pub invariant-loop-at : goal.invariant-loop-at
invariant-loop-at l = place_of_space l.before l.text ≡ l.at + place_of_space l.left (drop l.at l.text)
