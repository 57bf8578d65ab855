-- What clap is told of the command line.
use Rattle.std.specs.Prelude.{codes, Some}
use Rattle.clap.specs.Words.{App, Rule, new_rule, with_rule, with_subcommand}
use Rattle.clap.specs.declared.builder.ArgAction.TheVariants.{Set}
use Rattle.hls_words.specs.Commands.{word, program}

abbrev pub at : Rule
at = record (new_rule (codes "at")) { long = Some (codes "at"); action = Some Set }

abbrev pub of : Rule
of = record (new_rule (codes "of")) { long = Some (codes "of"); action = Some Set }

abbrev pub from : Rule
from = record (new_rule (codes "from")) { long = Some (codes "from"); action = Some Set }

abbrev pub to : Rule
to = record (new_rule (codes "to")) { long = Some (codes "to"); action = Some Set }

abbrev pub tick : Rule
tick = record (new_rule (codes "tick")) { long = Some (codes "tick"); action = Some Set }

abbrev pub margins : App
margins = word (codes "margins")

abbrev pub tree : App
tree = with_rule (word (codes "tree")) at

abbrev pub jobs : App
jobs = with_rule (word (codes "jobs")) of

abbrev pub svg : App
svg = with_rule (with_rule (word (codes "svg")) from) to

abbrev pub trace : App
trace = with_rule (word (codes "trace")) tick

abbrev pub tables : App
tables = with_subcommand (with_subcommand (with_subcommand (program (codes "hlsview")) margins.top) tree.top) jobs.top

abbrev pub hlsview : App
hlsview = with_subcommand (with_subcommand tables svg.top) trace.top
