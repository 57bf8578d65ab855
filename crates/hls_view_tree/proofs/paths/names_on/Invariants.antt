use Rattle.std.proofs.Common.{◌≡◌, [], map, take, get_or}
use Rattle.hls_view_tree.proofs.paths.names_on.Given as goal

abbrev pub invariant-loop-place : goal.invariant-loop-place
invariant-loop-place l =
    l.names.items ≡ map (λ place. get_or l.known place []) (take l.place-index l.place-items)
