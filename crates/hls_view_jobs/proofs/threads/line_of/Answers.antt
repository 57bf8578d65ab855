use Rattle.std.proofs.Common.{◌+◌, ◌-◌, ℕ, List, drop, ◌∙◌, ap, subst, refl}
use Rattle.hls_report_text.specs.declared.report.Answered.{Answered}
use Rattle.hls_report_text.specs.Content.{content_of}
use Rattle.hls_view_jobs.specs.declared.job.Word.{Word}
use Rattle.hls_view_jobs.specs.declared.job.Job.{Job}
use Rattle.hls_view_jobs.specs.Words.{wakes_on}
use Rattle.hls_view_jobs.specs.Jobs.{releases, AreJobs}
use Rattle.hls_view_jobs.specs.Summaries.{IsSummary}
use Rattle.hls_view_jobs.proofs.threads.line_of.Goals as goal

pub returns-clause-line : goal.returns-clause-line
returns-clause-line c = record {
  name = refl;
  from = refl;
  to = ap (λ (k : ℕ). k - 1) c.requires.thread.until;
  wakes = c.wakes_on-wakes.ensures
      ∙ ap (λ (l : List Answered). wakes_on c.args.thread.now.name (drop (c.args.thread.now.place + 1) l))
      c.items.ensures;
  jobs = c.in_ok-jobs.jobs.items;
  are = subst (λ (l : List Word). AreJobs (content_of c.args.report.now) c.args.thread.now.name (releases l)
      c.in_ok-jobs.jobs.items) (c.deref.ensures.value ∙ c.in_ok-words.ensures.words) c.in_ok-jobs.ensures.jobs;
  summary = subst (λ (l : List Job). IsSummary l c.in_ok-summary.summary) c.deref-2.ensures.value
      c.in_ok-summary.ensures;
}
