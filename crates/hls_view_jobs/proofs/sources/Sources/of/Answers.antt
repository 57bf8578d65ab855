use Rattle.std.proofs.Common.{◌≡◌, List, map, filter, subst}
use Rattle.hls_report_text.specs.declared.report.Answered.{Answered}
use Rattle.hls_legal.specs.Stays.{stays}
use Rattle.hls_audit_stays.specs.Found.{stay_by, lasts}
use Rattle.hls_view_jobs.proofs.sources.Sources.of.Goals as goal

pub returns : goal.returns
returns c = record {
  lookup = c.in_ok-lookup.ensures;
  stays = subst (λ (l : List Answered). map (stay_by l) c.in_ok-stays.stays.items ≡ filter lasts (stays l))
      c.items.ensures c.in_ok-stays.ensures;
  known = c.new.ensures c.args.report.now;
}
