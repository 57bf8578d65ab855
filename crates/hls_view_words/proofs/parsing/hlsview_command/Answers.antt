use Rattle.std.proofs.Common.{rules, ap, ap₂, ◌∙◌}
use Rattle.std.proofs.lemmas.Result.{IfOk-weaker}
use Rattle.clap.specs.Words.{App, with_subcommand}
use Rattle.hls_view_words.proofs.parsing.hlsview_command.Goals as goal

pub returns : goal.returns
returns c =
    let with_svg = c.in_ok-subcommand.ensures.shape (search rules)
    ∙ ap₂ with_subcommand c.in_ok-tables_command.ensures.app
    (ap (λ (a : App). a.top) c.in_ok-svg_command.ensures.app) in
    IfOk-weaker c.subcommand-2.result _ _ (λ r h.
    h.shape (search rules) ∙ ap₂ with_subcommand with_svg
    (ap (λ (a : App). a.top) c.in_ok-trace_command.ensures.app))
    c.subcommand-2.ensures
