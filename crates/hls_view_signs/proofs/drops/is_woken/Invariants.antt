use Rattle.std.proofs.Common.{◌≡◌, drop}
use Rattle.std.specs.List.{list_any}
use Rattle.hls_view_signs.specs.Happenings.{is_woken}
use Rattle.hls_view_signs.proofs.drops.is_woken.Given as goal

abbrev pub invariant-loop-at : goal.invariant-loop-at
invariant-loop-at l = list_any (is_woken l.tick) l.words ≡ list_any (is_woken l.tick) (drop l.at l.words)
