use Rattle.std.proofs.Common.{◌≢◌, ℕ, ◌<◌, true, map, slice_get}
use Rattle.std.specs.Prelude.{option_map}
use Rattle.hls_machine.specs.Hierarchy.{Seat}
use Rattle.hls_tree_nodes.specs.Views.{is_place, place_view, seat_view}
use Rattle.hls_tree_passes.proofs.granting.port_on.Given as goal

abbrev pub invariant-loop-port : goal.invariant-loop-port
invariant-loop-port l = (q : ℕ) → q < l.port
    → is_place (option_map (λ (s : Seat). s.place) (slice_get (map seat_view l.seats) q)) (place_view l.place) ≢ true
