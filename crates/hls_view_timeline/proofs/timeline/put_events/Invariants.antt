use Rattle.std.proofs.Common.{◌≡◌, ◌++◌}
use Rattle.hls_view_timeline.proofs.timeline.put_events.Given as goal

abbrev pub invariant-loop-event : goal.invariant-loop-event
invariant-loop-event l = l.events.items ≡ l.fn.events.items ++ l.yielded
