use Rattle.std.proofs.Common.{◌+◌}
use Rattle.hls_view_tights.proofs.fractions.+is_quotient_at_most.Given as goal

abbrev pub decreases-is_quotient_at_most : goal.decreases-is_quotient_at_most
decreases-is_quotient_at_most l = l.den + l.other_den
