use Rattle.std.proofs.Common.{◌≡◌, drop}
use Rattle.std.specs.Prelude.{find}
use Rattle.hls_view_jobs.specs.Jobs.{has_ticks}
use Rattle.hls_view_jobs.proofs.fates.bound_among.Given as goal

abbrev pub invariant-loop-stay : goal.invariant-loop-stay
invariant-loop-stay l = find (has_ticks l.horizon l.from l.ticks) l.stays
    ≡ find (has_ticks l.horizon l.from l.ticks) (drop l.stay-index l.stays)
