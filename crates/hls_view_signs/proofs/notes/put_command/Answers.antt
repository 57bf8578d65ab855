use Rattle.std.proofs.Common.{◌+◌, ◌<◌, List, drop, length, sym, ap, ◌∙◌, subst}
use Rattle.hls_report_text.specs.declared.report.Answered.{Answered}
use Rattle.hls_view_jobs.proofs.WordLaws.{dropped_at}
use Rattle.hls_view_signs.proofs.NoteLaws.{first_noted}
use Rattle.hls_view_signs.proofs.notes.put_command.Goals as goal

pub returns-clause-grown : goal.returns-clause-grown
returns-clause-grown c = λ f on. c.in_ok-put_releases.ensures.grown f (c.in_ok-put_note.ensures.grown f on)

pub returns-clause-noted : goal.returns-clause-noted
returns-clause-noted c =
    let r = c.args.report.now in
    let place = c.args.place in
    let all = c.items-answered.result.now in
    let a = c.index-answered-place.result in
    let lt : place < length all =
    subst (λ (l : List Answered). place < length l) (sym c.items-answered.ensures) c.requires in
    first_noted r.horizon c.args.scale.now a (drop (place + 1) all) (drop place r.answered) c.name_in-name.result
    c.args.notes.now.items c.put_note.new.notes.items c.put_releases.new.notes.items
    (ap (drop place) (sym c.items-answered.ensures) ∙ dropped_at all place a lt c.index-answered-place.is)
    c.name_in-name.ensures c.in_ok-put_note.ensures c.in_ok-put_releases.ensures
