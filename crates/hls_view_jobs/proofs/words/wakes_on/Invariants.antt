use Rattle.std.proofs.Common.{◌≡◌, ◌≤◌, ◌+◌, drop}
use Rattle.hls_view_jobs.specs.Words.{wakes_on}
use Rattle.hls_view_jobs.proofs.words.wakes_on.Given as goal

abbrev pub invariant-loop-at : goal.invariant-loop-at
invariant-loop-at l = record {
  wakes : wakes_on l.name (drop l.place l.answered) ≡ l.wakes + wakes_on l.name (drop l.at l.answered);
  few : l.wakes ≤ l.at;
}
