use Rattle.std.proofs.Common.{◌≡◌, ◌∙◌, Some, refl, ap, map, slice_get}
use Rattle.std.specs.Prelude.{option_map}
use Rattle.std.proofs.lemmas.Option.{slice_get_read, slice_get-map}
use Rattle.hls_tree_nodes.specs.Views.{seat_view}
use Rattle.hls_tree_depths.specs.Subtrees.{sum_at}
use Rattle.hls_tree_depths.specs.Inside.Sums.{sum_under}
use Rattle.hls_tree_depths.proofs.Sums.{under_step}
use Rattle.hls_tree_depths.proofs.sum.greatest_over.Goals as goal

pub loop-seat-preserved : goal.loop-seat-preserved
loop-seat-preserved c =
    let at : slice_get (map seat_view c.args.seats.now) c.loop-seat.seat-index ≡ Some (seat_view c.seat-item.result) =
    slice_get-map seat_view c.args.seats.now c.loop-seat.seat-index
    ∙ ap (option_map seat_view) (slice_get_read c.args.seats.now _ c.loop-seat.seat-index c.seat-item.result refl
    c.loop-seat-test.true c.seat-item.is) in
    rw c.max-greatest.ensures (under_step (sum_at c.args.schedulers.now c.args.sums.now)
    (map seat_view c.args.seats.now) c.loop-seat.seat-index c.loop-seat.greatest
    c.sum_under.result _ (seat_view c.seat-item.result) at
    (c.sum_under.ensures ∙ ap (sum_under (sum_at c.args.schedulers.now c.args.sums.now)) c.scheduler_of.ensures)
    c.loop-seat.invariant)
