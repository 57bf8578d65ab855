use Rattle.std.proofs.Common.{◌≡◌, ◌++◌, drop}
use Rattle.hls_view_jobs.specs.Words.{words_on}
use Rattle.hls_view_jobs.proofs.words.words_on.Given as goal

abbrev pub invariant-loop-at : goal.invariant-loop-at
invariant-loop-at l = words_on l.horizon l.name (drop l.place l.answered)
    ≡ l.words.items ++ words_on l.horizon l.name (drop l.at l.answered)
