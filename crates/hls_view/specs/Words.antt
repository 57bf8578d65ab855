-- The line that tells of the words that the program knows.
use Rattle.std.specs.Prelude.{[], ◌∷◌, ◌++◌, codes}
use Rattle.hls_text.specs.Lines.{Text}

abbrev pub usage_line : Text
usage_line = codes "usage: hlsview svg [--from A] [--to B] | trace [--tick U] | margins | tree [--at T]"
    ++ codes " | jobs [--of NAME]" ++ 10 ∷ []
