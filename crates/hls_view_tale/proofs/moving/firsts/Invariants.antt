use Rattle.std.proofs.Common.{◌≡◌, [], fold, take}
use Rattle.hls_report_text.specs.WellFormed.{with_name}
use Rattle.hls_view_tale.proofs.moving.firsts.Given as goal

abbrev pub invariant-loop-name : goal.invariant-loop-name
invariant-loop-name l = l.known.items ≡ fold with_name [] (take l.name-index l.names)
