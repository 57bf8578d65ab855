use Rattle.std.proofs.Common.{◌≡◌, ◌++◌, [], flat_map, get_or}
use Rattle.std.specs.List.{range_with_len}
use Rattle.hls_view_timeline.specs.Numbers.{track_of}
use Rattle.hls_view_timeline.specs.Staying.{track_events}
use Rattle.hls_view_timeline.proofs.staying.put_stay.Given as goal

abbrev pub invariant-loop-number : goal.invariant-loop-number
invariant-loop-number l = l.events.items ≡ l.fn.events.items
    ++ flat_map (λ number. track_events (track_of l.rows (get_or l.ways number [])) l.stay.account.now
    l.stay.ready.now l.stay.taken.now number) (range_with_len 0 l.number)
