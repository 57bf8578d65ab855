use Rattle.std.proofs.Common.{refl, length}
use Rattle.std.proofs.lemmas.Option.{slice_get_read}
use Rattle.hls_view_signs.proofs.SceneLaws.{heard_more, heard_on, heard_all}
use Rattle.hls_view_signs.proofs.roused.roused_in.Goals as goal

pub returns-then-tick-note : goal.returns-then-tick-note
returns-then-tick-note c =
    let notes = c.args.notes.now in
    let place = c.loop-place.place in
    let note = c.index-notes-place.result in
    heard_on notes c.args.tick place note c.loop-place.names.items c.requires
    (slice_get_read notes (length notes) place note refl c.loop-place-test.true c.index-notes-place.is)
    c.if-tick-note.true c.loop-place.invariant

pub loop-place-preserved : goal.loop-place-preserved
loop-place-preserved c =
    let notes = c.args.notes.now in
    let place = c.loop-place.place in
    let note = c.index-notes-place.result in
    heard_more notes c.args.tick place note c.loop-place.names.items c.push.new.self.items
    (slice_get_read notes (length notes) place note refl c.loop-place-test.true c.index-notes-place.is)
    c.in_ok-push.ensures.items c.loop-place.invariant

pub returns : goal.returns
returns c =
    heard_all c.args.notes.now c.args.tick c.loop-place.place c.loop-place.names.items c.loop-place-test.false
    c.loop-place.invariant
