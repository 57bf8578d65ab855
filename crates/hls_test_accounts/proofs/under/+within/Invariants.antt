use Rattle.std.proofs.Common.{◌≡◌, ◌+◌, ◌*◌, take, false}
use Rattle.std.specs.List.{list_any}
use Rattle.hls_scenario.specs.declared.scenario.Perch.{Perch}
use Rattle.hls_legal.specs.Under.{is_on, is_within}
use Rattle.hls_test_accounts.proofs.under.+within.Given as goal

abbrev pub decreases-is_within : goal.decreases-is_within
decreases-is_within l = 4 * l.steps

abbrev pub decreases-is_on : goal.decreases-is_on
decreases-is_on l = 4 * l.steps + 1

abbrev pub decreases-any_on : goal.decreases-any_on
decreases-any_on l = 4 * l.steps + 2

abbrev pub decreases-seats_on : goal.decreases-seats_on
decreases-seats_on l = 4 * l.steps + 3

abbrev pub invariant-any_on-loop-perch : goal.invariant-any_on-loop-perch
invariant-any_on-loop-perch l =
    list_any (λ (perch : Perch). is_on (is_within l.before l.steps l.above) perch.spot)
    (take l.perch-index l.perches) ≡ false
