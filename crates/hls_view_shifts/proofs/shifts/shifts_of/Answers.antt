use Rattle.std.proofs.Common.{◌≡◌, List, arith, length, ap}
use Rattle.std.specs.Prelude.{slice_get}
use Rattle.hls_report_text.specs.declared.report.Answered.{Answered}
use Rattle.hls_report_text.specs.Content.{content_of}
use Rattle.hls_view_shifts.specs.Shifts.{shift_at}
use Rattle.hls_view_shifts.proofs.Ranges.{filter_map_put}
use Rattle.hls_view_shifts.proofs.Found.{all_shifts}
use Rattle.hls_view_shifts.proofs.shifts.shifts_of.Goals as goal

pub loop-place-preserved : goal.loop-place-preserved
loop-place-preserved c =
    let content = content_of c.args.report.now in
    filter_map_put
    (λ place. shift_at content c.args.scale.now c.args.rows.now place (slice_get content.answered place))
    c.loop-place.place c.in_ok-shift_at.field-0 c.loop-place.shifts.items c.put_shift.new.shifts.items
    c.in_ok-put_shift.ensures c.in_ok-shift_at.ensures c.loop-place.invariant

pub returns : goal.returns
returns c =
    let answered = (content_of c.args.report.now).answered in
    let end = c.loop-place-test.false in
    let within = c.loop-place.auto.place-end in
    let same = ap (λ (l : List Answered). length l) c.items-place-end.ensures in
    all_shifts (content_of c.args.report.now) c.args.scale.now c.args.rows.now c.loop-place.place
    c.loop-place.shifts.items c.loop-place.invariant
    (let e : c.loop-place.place ≡ length answered = omega (arith, end, within, same) in e)
