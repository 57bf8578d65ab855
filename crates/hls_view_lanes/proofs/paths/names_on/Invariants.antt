use Rattle.std.proofs.Common.{◌≡◌, take, map, get_or, []}
use Rattle.hls_view_lanes.proofs.paths.names_on.Given as goal

abbrev pub invariant-loop-place : goal.invariant-loop-place
invariant-loop-place l =
    l.names.items ≡ map (λ place. get_or l.report.names place []) (take l.place-index (take l.path.len l.path.names))
