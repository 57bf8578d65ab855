use Rattle.std.proofs.Common.{◌-◌}
use Rattle.hls_view_jobs.proofs.AgainLaws.{IsPutTo}
use Rattle.hls_view_jobs.proofs.words.put_again.Given as goal

abbrev pub invariant-loop-done : goal.invariant-loop-done
invariant-loop-done l =
    IsPutTo l.fn.words.items l.many l.repeat.period l.tick l.sort l.words.items l.at (l.many - l.done)
