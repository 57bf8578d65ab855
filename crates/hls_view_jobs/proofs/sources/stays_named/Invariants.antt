use Rattle.std.proofs.Common.{◌≡◌, All, take, map, filter}
use Rattle.hls_guarantee.specs.Limits.{IsValid}
use Rattle.hls_legal.specs.declared.stay.Stay.{Stay}
use Rattle.hls_audit_stays.specs.Found.{stay_by}
use Rattle.hls_view_jobs.specs.Jobs.{is_of}
use Rattle.hls_view_jobs.proofs.sources.stays_named.Given as goal

abbrev pub invariant-loop-found : goal.invariant-loop-found
invariant-loop-found l = record {
  named : l.named.items ≡ filter (is_of l.name) (take l.found-index (map (stay_by l.report.answered) l.stays));
  valid : All (λ (s : Stay). IsValid s.kept) l.named.items;
}
