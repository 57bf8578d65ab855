use Rattle.std.proofs.Common.{◌∙◌, ◌++◌, [], List, ap, get_or}
use Rattle.std.proofs.lemmas.List.{get_or_read}
use Rattle.hls_view_tale.specs.declared.label.Label.{Label}
use Rattle.hls_view_trace.specs.declared.event.Place.{Place}
use Rattle.hls_view_timeline.specs.Numbers.{track_of}
use Rattle.hls_view_timeline.specs.Staying.{track_events}
use Rattle.hls_view_timeline.proofs.Steps.{add_next}
use Rattle.hls_view_timeline.proofs.staying.put_stay.Goals as goal

pub loop-number-preserved : goal.loop-number-preserved
loop-number-preserved c =
    let rows = c.args.rows.now in
    let ways = c.args.ways.now in
    let stay = c.args.stay.now in
    let n = c.loop-number.number in
    let events = λ (place : Place). track_events place stay.account.now stay.ready.now stay.taken.now n in
    let way = c.items.ensures ∙ get_or_read ways n c.index-ways-number.result c.loop-number-test.true
    c.index-ways-number.is [] in
    add_next (λ number. track_events (track_of rows (get_or ways number [])) stay.account.now stay.ready.now
    stay.taken.now number)
    n c.args.events.now.items c.loop-number.events.items c.put_track.new.events.items
    (c.in_ok-put_track.ensures
    ∙ ap (λ (place : Place). c.loop-number.events.items ++ events place) c.track_of-place.ensures
    ∙ ap (λ (w : List Label). c.loop-number.events.items ++ events (track_of rows w)) way)
    c.loop-number.invariant
