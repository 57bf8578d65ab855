-- What clap is told of the command line.
use Rattle.std.specs.Prelude.{codes, true, Some}
use Rattle.clap.specs.Words.{App, Rule, Text, new_rule, with_rule, with_subcommand}
use Rattle.clap.specs.declared.builder.ArgAction.TheVariants.{Set}
use Rattle.hls_words.specs.Commands.{word, program}

abbrev pub depth : Rule
depth = record (new_rule (codes "depth")) { long = Some (codes "depth"); action = Some Set }

abbrev pub number : Rule
number = record (new_rule (codes "number")) { action = Some Set; required = true }

abbrev pub run : App
run = with_rule (word (codes "run")) depth

abbrev pub check : App
check = word (codes "check")

-- a word that takes a number
abbrev pub numbered : Text → App
numbered name = with_rule (word name) number

abbrev pub hls : App
hls = with_subcommand (with_subcommand (with_subcommand (with_subcommand (program (codes "hls")) run.top) check.top)
    (numbered (codes "gen")).top) (numbered (codes "trial")).top
