use Rattle.std.proofs.Common.{◌∙◌, ap, map}
use Rattle.std.proofs.lemmas.Result.{IfOk-weaker}
use Rattle.hls_report_text.specs.Content.{Content, content_of}
use Rattle.hls_view_margins.specs.Margins.{lasting}
use Rattle.hls_view_timeline.specs.Inside.Accounts.{account_by}
use Rattle.hls_view_timeline.proofs.Accounted.{accounts_are, accounts_within}
use Rattle.hls_view_timeline.proofs.accounts.accounts.Goals as goal

pub returns-clause-are : goal.returns-clause-are
returns-clause-are c =
    let content : Content = content_of c.args.report.now in
    IfOk-weaker c.accounts_by.result _ _ (λ all is.
    is ∙ ap (map account_by) c.deref.ensures.value
    ∙ accounts_are content (lasting content) c.in_ok-margins.margins.items c.in_ok-margins.ensures)
    c.accounts_by.ensures

pub returns-clause-within : goal.returns-clause-within
returns-clause-within c =
    let content : Content = content_of c.args.report.now in
    IfOk-weaker c.accounts_by.result _ _ (λ all is.
    accounts_within c.args.report.now all.items c.requires
    (is ∙ ap (map account_by) c.deref.ensures.value
    ∙ accounts_are content (lasting content) c.in_ok-margins.margins.items c.in_ok-margins.ensures))
    c.accounts_by.ensures
