use Rattle.std.proofs.Common.{◌≡◌, ◌++◌, take}
use Rattle.hls_view_tale.proofs.tale.reopen_all.Given as goal

abbrev pub invariant-loop-standing : goal.invariant-loop-standing
invariant-loop-standing l = l.all.items ≡ l.initial.all.items ++ take l.standing-index l.standing-items
