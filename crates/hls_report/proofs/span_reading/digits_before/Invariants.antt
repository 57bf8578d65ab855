use Rattle.std.proofs.Common.{◌≡◌, length}
use Rattle.hls_report.specs.Inside.Digits.{digits_to}
use Rattle.hls_report.proofs.span_reading.digits_before.Given as goal

abbrev pub invariant-loop-byte : goal.invariant-loop-byte
invariant-loop-byte l = digits_to l.end 0 l.text ≡ digits_to l.end l.value l.rest

abbrev pub decreases-loop-byte : goal.decreases-loop-byte
decreases-loop-byte l = length l.rest
