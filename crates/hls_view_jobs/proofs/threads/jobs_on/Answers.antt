use Rattle.std.proofs.Common.{◌<◌, List, length, refl, sym, subst, arith}
use Rattle.std.specs.Prelude.{All}
use Rattle.std.proofs.lemmas.Option.{slice_get_read}
use Rattle.hls_report_text.specs.Content.{content_of}
use Rattle.hls_audit_threads.proofs.KnownLaws.{known_within, known_served}
use Rattle.hls_view_jobs.specs.declared.job.Release.{Release}
use Rattle.hls_view_jobs.specs.Jobs.{AreJobs}
use Rattle.hls_view_jobs.specs.Inside.Sound.{IsRelease}
use Rattle.hls_view_jobs.proofs.WordsSound.{releases_sound}
use Rattle.hls_view_jobs.proofs.JobLaws.{jobs_next, jobs_all}
use Rattle.hls_view_jobs.proofs.threads.jobs_on.Goals as goal

pub index-requires : goal.index-requires
index-requires c =
    subst (λ n. c.in_ok-place.place < n) (sym c.place_of.new.self.ticks.ok.0)
    (known_within (content_of c.args.report.now) c.place_of.new.self c.args.name.now c.in_ok-place.place
    c.in_ok-place.ensures.place)

pub job_of-requires-clause-sound : goal.job_of-requires-clause-sound
job_of-requires-clause-sound c =
    let horizon = c.args.report.now.horizon in
    let items = c.in_ok-releases.releases.items in
    subst (IsRelease horizon) (sym c.index-in-loop-at.ensures)
    (subst (All (IsRelease horizon)) (sym c.in_ok-releases.ensures)
    (releases_sound horizon 0 c.args.words.now c.requires.words) c.loop-at.at c.index-in-loop-at.result.now
    (omega (arith, c.len-at-end.ensures, c.in_ok-releases.releases.ok.0, c.loop-at-test.true)))

pub job_of-requires-clause-served : goal.job_of-requires-clause-served
job_of-requires-clause-served c =
    let items = c.place_of.new.self.ticks.items in
    known_served (content_of c.args.report.now) c.place_of.new.self c.args.name.now c.in_ok-place.place
    c.index.result.now c.in_ok-place.ensures.place
    (slice_get_read items (length items) c.in_ok-place.place c.index.result.now refl
    (known_within (content_of c.args.report.now) c.place_of.new.self c.args.name.now c.in_ok-place.place
    c.in_ok-place.ensures.place) c.index.ensures)

pub loop-at-preserved : goal.loop-at-preserved
loop-at-preserved c =
    jobs_next (content_of c.args.report.now) c.args.name.now c.in_ok-releases.releases.items c.loop-at.at
    c.index-in-loop-at.result.now c.job_of.result c.loop-at.jobs.items c.push.new.self.items
    (omega (arith, c.len-at-end.ensures, c.in_ok-releases.releases.ok.0, c.loop-at-test.true))
    c.index-in-loop-at.ensures c.job_of.ensures c.in_ok-push.ensures.items c.loop-at.invariant

pub returns-clause-jobs : goal.returns-clause-jobs
returns-clause-jobs c =
    subst (λ (all : List Release). AreJobs (content_of c.args.report.now) c.args.name.now all c.loop-at.jobs.items)
    c.in_ok-releases.ensures
    (jobs_all (content_of c.args.report.now) c.args.name.now c.in_ok-releases.releases.items c.loop-at.at
    c.loop-at.jobs.items (omega (arith, c.len-at-end.ensures, c.in_ok-releases.releases.ok.0, c.loop-at-test.false))
    c.loop-at.invariant)
