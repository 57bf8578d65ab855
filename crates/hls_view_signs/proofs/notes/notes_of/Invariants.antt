use Rattle.std.proofs.Common.{ℕ, ◌<◌, drop}
use Rattle.hls_view_signs.specs.Inside.Notes.{FirstIsNoted}
use Rattle.hls_view_signs.proofs.notes.notes_of.Given as goal

abbrev pub invariant-loop-place : goal.invariant-loop-place
invariant-loop-place l = (k : ℕ) → k < l.place
    → FirstIsNoted l.report.horizon l.scale l.notes.items (drop k l.report.answered)
