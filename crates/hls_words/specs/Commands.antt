-- What clap is told of a program and of its words.
use Rattle.std.specs.Prelude.{true}
use Rattle.clap.specs.Words.{App, Text, new_app}
use Rattle.clap.specs.Simple.{on_top}

-- a word with no help of its own
abbrev pub word : Text → App
word name = on_top (λ s. record s { disable_help_flag = true }) (new_app name)

-- a program that is told by its first word what to do, and has no help
abbrev pub program : Text → App
program name = on_top (λ s. record s {
  no_binary_name = true;
  disable_help_flag = true;
  disable_help_subcommand = true;
  subcommand_required = true;
}) (new_app name)
