use Rattle.std.proofs.Common.{◌≡◌, drop}
use Rattle.hls_view_jobs.specs.Words.{words_on, end_in}
use Rattle.hls_view_jobs.proofs.admissions.end_from.Given as goal

abbrev pub invariant-loop-at : goal.invariant-loop-at
invariant-loop-at l = end_in l.horizon (words_on l.horizon l.name (drop l.place l.answered))
    ≡ end_in l.horizon (words_on l.horizon l.name (drop l.at l.answered))
