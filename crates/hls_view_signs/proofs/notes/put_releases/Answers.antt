use Rattle.std.proofs.Common.{◌≡◌, ◌+◌, ◌-◌, ◌<◌, List, ◌∷◌, ◌++◌, drop, take, length, sym, ap, ◌∙◌, subst}
use Rattle.hls_report_text.specs.declared.report.Answered.{Answered}
use Rattle.hls_view_jobs.specs.declared.job.Word.{Word}
use Rattle.hls_view_jobs.specs.Words.{first, repeat_of, last_by, later, words_on}
use Rattle.hls_view_jobs.proofs.WordLaws.{dropped_at, tail_at}
use Rattle.hls_view_signs.proofs.NoteLaws.{releases_none, releases_put}
use Rattle.hls_view_signs.proofs.notes.put_releases.Goals as goal

pub returns-in_ok-put_words : goal.returns-in_ok-put_words
returns-in_ok-put_words c =
    let r = c.args.report.now in
    let place = c.args.place in
    let all = c.items-answered.result.now in
    let a = c.index-answered-place.result in
    let name = c.name_in-name.result in
    let lt : place < length all =
    subst (λ (l : List Answered). place < length l) (sym c.items-answered.ensures) c.requires in
    let split : drop place r.answered ≡ a ∷ drop (place + 1) all =
    ap (drop place) (sym c.items-answered.ensures) ∙ dropped_at all place a lt c.index-answered-place.is in
    let said : List Answered → List Word =
    λ l. later a.tick (last_by r.horizon (first (words_on r.horizon name l))) (repeat_of a.command) in
    releases_put r.horizon c.args.scale.now a (drop (place + 1) all) (drop place r.answered) name c.deref.result.now
    c.args.notes.now.items c.put_words.new.notes.items split c.name_in-name.ensures
    (c.deref.ensures.value ∙ c.in_ok-put_later.ensures
    ∙ ap (λ (l : List Word). l ++ said (take (length all - (place + 1)) (drop (place + 1) all)))
    c.new-words.ensures.items
    ∙ ap said (tail_at all (place + 1)))
    c.in_ok-put_words.ensures

pub returns-else-is_done : goal.returns-else-is_done
returns-else-is_done c =
    let r = c.args.report.now in
    let place = c.args.place in
    let all = c.items-answered.result.now in
    let a = c.index-answered-place.result in
    let lt : place < length all =
    subst (λ (l : List Answered). place < length l) (sym c.items-answered.ensures) c.requires in
    releases_none r.horizon c.args.scale.now a (drop (place + 1) all) (drop place r.answered) c.args.notes.now.items
    (ap (drop place) (sym c.items-answered.ensures) ∙ dropped_at all place a lt c.index-answered-place.is)
    (sym c.is_done.ensures ∙ c.if-is_done.false)
