use Rattle.std.proofs.Common.{◌≡◌, drop}
use Rattle.hls_view_jobs.specs.Words.{words_on}
use Rattle.hls_view_jobs.proofs.words.last_before.Given as goal

abbrev pub invariant-loop-a : goal.invariant-loop-a
invariant-loop-a l = words_on l.horizon l.name l.after ≡ words_on l.horizon l.name (drop l.a-index l.after)
