-- What clap is told of the command line.
use Rattle.std.specs.Prelude.{codes, Some}
use Rattle.clap.specs.Words.{App, Rule, Text, new_rule, with_rule, with_subcommand}
use Rattle.clap.specs.declared.builder.ArgAction.TheVariants.{Set, Append}
use Rattle.hls_words.specs.Commands.{word, program}

-- the words that spell the question
abbrev pub words : Rule
words = record (new_rule (codes "words")) { action = Some Append }

abbrev pub at : Rule
at = record (new_rule (codes "at")) { long = Some (codes "at"); action = Some Set }

abbrev pub depth : Rule
depth = record (new_rule (codes "depth")) { long = Some (codes "depth"); action = Some Set }

abbrev pub worded : Text → App
worded name = with_rule (word name) words

-- a word that asks a question
abbrev pub asking : Text → App
asking name = with_rule (with_rule (worded name) at) depth

abbrev pub hlsoffer : App
hlsoffer = with_subcommand (with_subcommand (with_subcommand (program (codes "hlsoffer")) (asking (codes "offer")).top)
    (asking (codes "need")).top) (asking (codes "spare")).top
