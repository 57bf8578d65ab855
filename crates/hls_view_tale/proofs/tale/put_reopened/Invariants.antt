use Rattle.std.proofs.Common.{◌≡◌, ◌++◌, map, take}
use Rattle.hls_view_tale.specs.Standings.{reopened, those_of}
use Rattle.hls_view_tale.proofs.tale.put_reopened.Given as goal

abbrev pub invariant-loop-standing : goal.invariant-loop-standing
invariant-loop-standing l =
    l.new.items ≡ l.initial.new.items ++ map (reopened l.place) (those_of l.name (take l.standing-index l.all))
