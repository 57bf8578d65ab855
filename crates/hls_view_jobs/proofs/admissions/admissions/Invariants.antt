use Rattle.std.proofs.Common.{◌≡◌, ◌++◌, All, drop, map, filter}
use Rattle.hls_report_text.specs.Content.{content_of}
use Rattle.hls_view_jobs.specs.Threads.{lives, lasting, has_tick}
use Rattle.hls_view_jobs.specs.Inside.Sources.{IsAdmission, life_by}
use Rattle.hls_view_jobs.proofs.admissions.admissions.Given as goal

abbrev pub invariant-loop-place : goal.invariant-loop-place
invariant-loop-place l = record {
  are : All (IsAdmission (content_of l.report)) l.all.items;
  lives : lasting (content_of l.report) ≡ map (life_by l.report.horizon l.report.answered) l.all.items
      ++ filter (has_tick l.report.horizon) (lives l.report.horizon (drop l.place l.report.answered));
}
