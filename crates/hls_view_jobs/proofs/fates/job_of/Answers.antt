use Rattle.std.proofs.Common.{ℕ, ◌-◌, arith, refl, ◌∙◌, ap, subst}
use Rattle.std.specs.Prelude.{Option}
use Rattle.hls_report_text.specs.Content.{content_of}
use Rattle.hls_report_text.proofs.LineTexts.{horizon_fits}
use Rattle.hls_legal.specs.declared.stay.Stay.{Stay}
use Rattle.hls_legal.specs.Schedule.{is_served}
use Rattle.hls_audit_spans.specs.Spans.{IsReach}
use Rattle.hls_view_jobs.specs.Jobs.{until, bound_by}
use Rattle.hls_view_jobs.proofs.FateLaws.{fate_found}
use Rattle.hls_view_jobs.proofs.StayLaws.{stay_found}
use Rattle.hls_view_jobs.proofs.fates.job_of.Goals as goal

reached : (c : goal.After-reach-reach) → IsReach (is_served (content_of c.args.report.now).stretches c.args.name.now)
    c.args.release.now.tick c.args.release.now.asked (until c.args.report.now.horizon c.args.release.now)
    c.reach-reach.result
reached c =
    let f = is_served (content_of c.args.report.now).stretches c.args.name.now in
    let r = c.args.release.now in
    let same = c.until.ensures in
    let ends = c.requires.sound.ends in
    subst (λ (u : ℕ). IsReach f r.tick r.asked u c.reach-reach.result) same
    (c.reach-reach.ensures f c.args.report.now.horizon c.requires.served (omega (arith, same, ends)))

pub overflow_sub-ticks : goal.overflow_sub-ticks
overflow_sub-ticks c = (reached c).begins

pub count-got-requires : goal.count-got-requires
count-got-requires c =
    let begins = (reached c).begins in
    let ends = (reached c).ends in
    let soon = c.requires.sound.ends in
    let report = c.args.report.now in
    let few = horizon_fits report.version report.horizon c.requires.formed.content.horizon in
    record { few = omega (arith, begins, ends, soon, few) }

pub bound_among-requires-clause-few : goal.bound_among-requires-clause-few
bound_among-requires-clause-few c =
    let begins = (reached c.before.before).begins in
    let ends = (reached c.before.before).ends in
    let soon = c.requires.sound.ends in
    let report = c.args.report.now in
    let few = horizon_fits report.version report.horizon c.requires.formed.content.horizon in
    omega (arith, begins, ends, soon, few)

pub returns : goal.returns
returns c =
    let content = content_of c.args.report.now in
    let f = is_served content.stretches c.args.name.now in
    let r = c.args.release.now in
    let reach = c.reach-reach.result in
    let was = reached c.before.before.before in
    let begins = was.begins in
    let ends = was.ends in
    let soon = c.requires.sound.ends in
    let got = c.count-got.ensures f c.args.report.now.horizon c.requires.served (omega (arith, begins, ends, soon)) in
    record {
      release = refl;
      asked = refl;
      fate = rw c.fate_by.ensures (fate_found f c.args.report.now.horizon r _ reach c.requires.sound was
          (record { release = refl; asked = refl; ticks = refl; got = got }));
      got = got;
      bound = c.bound_among.ensures ∙ ap (λ (s : Option Stay). bound_by r.asked s)
          (stay_found content c.args.name.now r.tick (reach - r.tick) c.args.stays.now c.requires.stays);
    }
