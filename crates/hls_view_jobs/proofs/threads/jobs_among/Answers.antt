use Rattle.std.proofs.Common.{◌≡◌, List, ◌++◌, true, false, sym, ap, ◌∙◌, subst}
use Rattle.hls_text.specs.Lines.{Text}
use Rattle.hls_report_text.specs.Content.{content_of}
use Rattle.hls_audit_stays.proofs.Names.{bytes_same}
use Rattle.hls_view_jobs.specs.declared.job.Job.{Job}
use Rattle.hls_view_jobs.specs.Jobs.{releases, AreJobs}
use Rattle.hls_view_jobs.specs.Threads.{is_named}
use Rattle.hls_view_jobs.specs.Inside.Sources.{AreSources, life_by}
use Rattle.hls_view_jobs.proofs.LineLaws.{named_next, other_next}
use Rattle.hls_view_jobs.proofs.threads.jobs_among.Goals.{then-eq+in_ok-more+in_ok-extend_from_slice, else-eq}
use Rattle.hls_view_jobs.proofs.threads.jobs_among.Goals as goal

pub loop-at-preserved : goal.loop-at-preserved
loop-at-preserved c =
    let r = c.args.report.now in
    let content = content_of r in
    let name = c.args.name.now in
    let one = c.index-threads-at.result in
    elim c.if-eq.branch [
      | then-eq+in_ok-more+in_ok-extend_from_slice w ↦
          let named : is_named name (life_by r.horizon r.answered one) ≡ true = sym c.eq.ensures ∙ w.if-eq.true in
          let more = w.in_ok-more.more.items in
          let found : AreJobs content name (releases (life_by r.horizon r.answered one).words) more =
          subst (λ (n : Text). AreJobs content n (releases (life_by r.horizon r.answered one).words) more)
          (bytes_same one.name name named) w.in_ok-more.ensures.jobs in
          let put : c.if-eq.jobs.items ≡ c.loop-at.jobs.items ++ more = ap (λ v. v.items) w.jobs-is
          ∙ w.in_ok-extend_from_slice.ensures.items
          ∙ ap (λ (l : List Job). c.loop-at.jobs.items ++ l) w.deref.ensures.value
          in
          record {
            sources = subst (AreSources r) (sym w.sources-is) w.in_ok-more.ensures.sources;
            jobs = named_next content name c.args.threads.now c.loop-at.at one c.loop-at.jobs.items more
                c.if-eq.jobs.items c.loop-at-test.true c.index-threads-at.is named found put c.loop-at.invariant.jobs;
          }
      | else-eq w ↦
          let other : is_named name (life_by r.horizon r.answered one) ≡ false = sym c.eq.ensures ∙ w.if-eq.false in
          record {
            sources = subst (AreSources r) (sym w.sources-is) c.loop-at.invariant.sources;
            jobs = other_next content name c.args.threads.now c.loop-at.at one c.loop-at.jobs.items c.if-eq.jobs.items
                c.loop-at-test.true c.index-threads-at.is other (ap (λ v. v.items) w.jobs-is)
                c.loop-at.invariant.jobs;
          }
    ]
