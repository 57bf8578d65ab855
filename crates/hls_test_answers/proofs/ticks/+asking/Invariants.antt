use Rattle.std.proofs.Common.{◌+◌, ◌*◌}
use Rattle.hls_test_answers.proofs.ticks.+asking.Given as goal

abbrev pub decreases-mask_of : goal.decreases-mask_of
decreases-mask_of l = 2 * l.steps

abbrev pub decreases-asks : goal.decreases-asks
decreases-asks l = 2 * l.steps + 1
