use Rattle.std.proofs.Common.{◌≡◌, map, take}
use Rattle.std.specs.Prelude.{flat_map}
use Rattle.hls_view_tale.specs.Standings.{reopened, those_of}
use Rattle.hls_view_tale.proofs.tale.reopened.Given as goal

abbrev pub invariant-loop-name : goal.invariant-loop-name
invariant-loop-name l =
    l.new.items ≡ flat_map (λ name. map (reopened l.place) (those_of name l.all)) (take l.name-index l.names)
