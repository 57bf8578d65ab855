use Rattle.std.proofs.Common.{◌∙◌, ◌++◌, List, ap, append_assoc}
use Rattle.hls_view_trace.specs.declared.event.Category.TheVariants.{Ready, Run}
use Rattle.hls_view_trace.specs.declared.event.Event.{Event}
use Rattle.hls_view_timeline.specs.Slices.{slice_at}
use Rattle.hls_view_timeline.proofs.Steps.{add_next}
use Rattle.hls_view_timeline.proofs.slices.put_inner.Goals as goal

pub loop-at-preserved : goal.loop-at-preserved
loop-at-preserved c =
    let place = c.args.place in
    let ticks = c.args.ticks.now in
    let n = c.loop-at.at in
    let ready = slice_at Ready place ticks.from ticks.ready.now in
    let taken = slice_at Run place ticks.from ticks.taken.now in
    add_next (λ at. ready at ++ taken at) n c.args.events.now.items c.loop-at.events.items
    c.put_slice-in-loop-at.new.events.items
    (c.in_ok-put_slice-2.ensures
    ∙ ap (λ (l : List Event). l ++ taken n) c.in_ok-put_slice.ensures
    ∙ append_assoc c.loop-at.events.items (ready n) (taken n))
    c.loop-at.invariant
