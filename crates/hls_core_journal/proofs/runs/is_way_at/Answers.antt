use Rattle.std.proofs.Common.{refl, sym, ◌∙◌, ap, length}
use Rattle.std.specs.Prelude.{Option, Some}
use Rattle.std.proofs.lemmas.Option.{slice_get_read}
use Rattle.hls_report_text.specs.declared.report.Path.{Path}
use Rattle.hls_core_journal.proofs.Rows.{way_same}
use Rattle.hls_core_journal.proofs.runs.is_way_at.Goals as goal

pub returns-in-Some : goal.returns-in-Some
returns-in-Some c = λ yes.
    let ways = c.args.ways.now in
    let found = c.in-Some.ensures.lookup in
    slice_get_read ways (length ways) c.args.place c.in-Some.way.now refl found.3.0 found.1
    ∙ ap (λ (path : Option Path). Some path)
    (way_same c.in-Some.way.now c.args.path.now (sym c.eq.ensures ∙ yes))
