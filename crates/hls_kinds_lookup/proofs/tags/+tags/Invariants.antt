use Rattle.std.proofs.Common.{◌+◌, ◌*◌}
use Rattle.hls_kinds_lookup.proofs.tags.+tags.Given as goal

abbrev pub decreases-start_in : goal.decreases-start_in
decreases-start_in l = 3 * l.rounds

abbrev pub decreases-time_in : goal.decreases-time_in
decreases-time_in l = 3 * l.rounds + 1

abbrev pub decreases-finish_in : goal.decreases-finish_in
decreases-finish_in l = 3 * l.rounds + 2
