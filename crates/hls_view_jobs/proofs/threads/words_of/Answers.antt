use Rattle.std.proofs.Common.{◌≡◌, ◌+◌, List, drop, ◌∙◌, sym, ap, subst, arith}
use Rattle.hls_report_text.specs.declared.report.Answered.{Answered}
use Rattle.hls_view_jobs.specs.Words.{words_on}
use Rattle.hls_view_jobs.specs.Inside.Sound.{AreWords}
use Rattle.hls_view_jobs.proofs.AgainLaws.{words_since}
use Rattle.hls_view_jobs.proofs.threads.words_of.Goals as goal

pub returns-clause-words : goal.returns-clause-words
returns-clause-words c =
    let one = c.args.thread.now in
    c.in_ok-words.ensures
    ∙ ap (λ (l : List Answered). words_on c.args.report.now.horizon one.name (drop (one.place + 1) l))
    c.items-answered.ensures

pub returns-clause-sound : goal.returns-clause-sound
returns-clause-sound c =
    let horizon = c.args.report.now.horizon in
    let answered = c.args.report.now.answered in
    let one = c.args.thread.now in
    let same : c.in_ok-words.words.items ≡ words_on horizon one.name (drop (one.place + 1) answered) =
    c.in_ok-words.ensures
    ∙ ap (λ (l : List Answered). words_on horizon one.name (drop (one.place + 1) l)) c.items-answered.ensures in
    subst (AreWords horizon 0) (sym same)
    (words_since horizon 0 one.from (words_on horizon one.name (drop (one.place + 1) answered)) (omega arith)
    c.requires.words)
