use Rattle.std.proofs.Common.{◌≡◌, true, false, sym, ◌∙◌, ap}
use Rattle.hls_report_text.specs.ReportText.{item_text}
use Rattle.hls_report.proofs.LineReadings.{item_is_line, none_some}
use Rattle.hls_report.proofs.line_reading.item.Goals as goal

pub returns-then-branch-clause-exact : goal.returns-then-branch-clause-exact
returns-then-branch-clause-exact c = λ item n e.
    rw c.in-Some.is at (c.in_ok-item.ensures.exact item
    (item_is_line c.args.version c.args.horizon c.args.last item c.args.line.now c.requires n e))

pub returns-else-branch-clause-exact : goal.returns-else-branch-clause-exact
returns-else-branch-clause-exact c = λ item n e.
    let found = rw c.in-Some.is at (c.in_ok-item.ensures.exact item
    (item_is_line c.args.version c.args.horizon c.args.last item c.args.line.now c.requires n e)) in
    let same : c.in-Some.item ≡ item = cc in
    let is = c.in_ok-spells-in-Some.ensures.1 (e ∙ ap (item_text c.args.version) (sym same)) in
    absurd (let f : false ≡ true = sym c.if-branch.false ∙ is in cc)

pub returns-in-None-clause-exact : goal.returns-in-None-clause-exact
returns-in-None-clause-exact c = λ item n e.
    let found = rw c.in-None.is at (c.in_ok-item.ensures.exact item
    (item_is_line c.args.version c.args.horizon c.args.last item c.args.line.now c.requires n e)) in absurd
    (none_some item found)
