use Rattle.std.proofs.Common.{◌≡◌, ◌++◌, [], take, flat_map, get_or, codes}
use Rattle.hls_core_journal.proofs.tails.put_places.Given as goal

abbrev pub invariant-loop-place : goal.invariant-loop-place
invariant-loop-place l = l.out.items ≡ l.fn.out.items
    ++ flat_map (λ place. codes "/" ++ get_or l.names.keys place []) (take l.place-index l.places)
