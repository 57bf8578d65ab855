use Rattle.std.proofs.Common.{rules, ap, ap₂, ◌∙◌}
use Rattle.std.proofs.lemmas.Result.{IfOk-weaker}
use Rattle.clap.specs.Words.{App, with_subcommand}
use Rattle.hls_view_words.proofs.parsing.tables_command.Goals as goal

pub returns-clause-app : goal.returns-clause-app
returns-clause-app c =
    let with_margins = c.in_ok-subcommand.ensures.shape (search rules)
    ∙ ap₂ with_subcommand c.program_command.ensures.app (ap (λ (a : App). a.top) c.margins_command.ensures.app) in
    let with_tree = c.in_ok-subcommand-2.ensures.shape (search rules)
    ∙ ap₂ with_subcommand with_margins (ap (λ (a : App). a.top) c.in_ok-tree_command.ensures.app) in
    IfOk-weaker c.subcommand-3.result _ _ (λ r h.
    h.shape (search rules) ∙ ap₂ with_subcommand with_tree
    (ap (λ (a : App). a.top) c.in_ok-jobs_command.ensures.app))
    c.subcommand-3.ensures
