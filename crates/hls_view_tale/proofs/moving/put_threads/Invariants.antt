use Rattle.std.proofs.Common.{◌≡◌, ◌++◌, filter, take}
use Rattle.hls_view_tale.specs.Standings.{is_among}
use Rattle.hls_view_tale.proofs.moving.put_threads.Given as goal

abbrev pub invariant-loop-name : goal.invariant-loop-name
invariant-loop-name l =
    l.moved.items ≡ l.initial.moved.items ++ filter (is_among l.met) (take l.name-index l.threads)
