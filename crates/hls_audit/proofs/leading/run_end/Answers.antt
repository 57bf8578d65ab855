use Rattle.std.proofs.Common.{List, sym, ap, ◌∙◌, arith}
use Rattle.std.specs.Prelude.{slice_get}
use Rattle.std.proofs.lemmas.Option.{slice_get_past}
use Rattle.hls_report_text.specs.declared.report.Run.{Run}
use Rattle.hls_audit.specs.Inside.Leading.{end_or}
use Rattle.hls_audit.proofs.Abreast.{read_at}
use Rattle.hls_audit.proofs.IdleLaws.{run_fits}
use Rattle.hls_audit.proofs.leading.run_end.Goals as goal

pub overflow_add-result : goal.overflow_add-result
overflow_add-result c =
    let few = run_fits c.args.report.now c.items.result.now c.args.at c.in-Some.run'.now c.requires.content
    c.items.ensures c.in-Some.ensures.lookup.3.0 c.in-Some.ensures.lookup.1 in
    omega (arith, few)

pub returns-in-Some : goal.returns-in-Some
returns-in-Some c =
    ap (end_or c.args.report.now.horizon)
    (read_at c.items.result.now c.args.at c.in-Some.run'.now c.in-Some.ensures.lookup.3.0 c.in-Some.ensures.lookup.1
    ∙ ap (λ (l : List Run). slice_get l c.args.at) c.items.ensures)

pub returns-in-None : goal.returns-in-None
returns-in-None c =
    ap (end_or c.args.report.now.horizon)
    (sym (slice_get_past c.items.result.now c.args.at c.in-None.ensures.lookup.3)
    ∙ ap (λ (l : List Run). slice_get l c.args.at) c.items.ensures)
