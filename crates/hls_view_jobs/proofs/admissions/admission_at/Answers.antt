use Rattle.std.proofs.Common.{◌≡◌, ◌+◌, List, drop, get_or, ap, subst, ◌∙◌}
use Rattle.hls_report_text.specs.declared.report.Answered.{Answered}
use Rattle.hls_view_jobs.specs.Words.{words_on, end_in}
use Rattle.hls_view_jobs.proofs.WordsSound.{words_behind}
use Rattle.hls_view_jobs.proofs.admissions.admission_at.Goals as goal

pub returns-then-a-until-clause-is : goal.returns-then-a-until-clause-is
returns-then-a-until-clause-is c =
    let r = c.args.report.now in
    let a = c.index-answered-place.result in
    let same : c.items-answered.result.now ≡ r.answered = c.items-answered.ensures in
    record {
      within = c.requires.within;
      until = c.end_from-until.ensures
          ∙ ap (λ (l : List Answered).
          end_in r.horizon (words_on r.horizon c.in-Some.name (drop (c.args.place + 1) l))) same;
      some = c.if-a-until.true;
      words = words_behind r.version r.horizon c.in-Some.name r.answered c.args.place a c.requires.within
          (subst (λ (l : List Answered). a ≡ get_or l c.args.place a) same c.index-answered-place.is)
          c.requires.formed.content.answered;
    }
