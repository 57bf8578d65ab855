use Rattle.std.proofs.Common.{◌≡◌, ◌++◌, drop}
use Rattle.hls_view_jobs.specs.Jobs.{releases}
use Rattle.hls_view_jobs.proofs.releases.releases_of.Given as goal

abbrev pub invariant-loop-at : goal.invariant-loop-at
invariant-loop-at l = releases l.words ≡ l.all.items ++ releases (drop l.at l.words)
