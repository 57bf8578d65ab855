use Rattle.std.proofs.Common.{◌≡◌}
use Rattle.hls_report_text.specs.Content.{content_of}
use Rattle.hls_view_shifts.proofs.Found.{first_shifts}
use Rattle.hls_view_shifts.proofs.shifts.shifts_of.Given as goal

abbrev pub invariant-loop-place : goal.invariant-loop-place
invariant-loop-place l = l.shifts.items ≡ first_shifts (content_of l.report) l.scale l.rows l.place
