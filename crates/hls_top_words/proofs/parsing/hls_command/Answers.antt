use Rattle.std.proofs.Common.{rules, ap, ap₂, ◌∙◌}
use Rattle.std.proofs.lemmas.Result.{IfOk-weaker}
use Rattle.clap.specs.Words.{App, with_subcommand}
use Rattle.hls_top_words.proofs.parsing.hls_command.Goals as goal

pub returns : goal.returns
returns c =
    let with_run = c.in_ok-subcommand.ensures.shape (search rules) ∙ ap₂ with_subcommand c.program_command.ensures.app
    (ap (λ (a : App). a.top) c.in_ok-run_command.ensures.app) in
    let with_check = c.in_ok-subcommand-2.ensures.shape (search rules) ∙ ap₂ with_subcommand with_run
    (ap (λ (a : App). a.top) c.check_command.ensures.app) in
    let with_gen = c.in_ok-subcommand-3.ensures.shape (search rules) ∙ ap₂ with_subcommand with_check
    (ap (λ (a : App). a.top) c.in_ok-numbered_command.ensures.app) in
    IfOk-weaker c.subcommand-4.result _ _ (λ r h.
    h.shape (search rules) ∙ ap₂ with_subcommand with_gen
    (ap (λ (a : App). a.top) c.in_ok-numbered_command-2.ensures.app))
    c.subcommand-4.ensures
