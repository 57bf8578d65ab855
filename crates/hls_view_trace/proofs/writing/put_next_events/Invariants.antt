use Rattle.std.proofs.Common.{◌≡◌, ◌++◌, take, flat_map}
use Rattle.hls_view_trace.specs.Traces.{next_text}
use Rattle.hls_view_trace.proofs.writing.put_next_events.Given as goal

abbrev pub invariant-loop-event : goal.invariant-loop-event
invariant-loop-event l =
    l.out.items ≡ l.fn.out.items ++ flat_map (next_text l.tick) (take l.event-index l.events)
