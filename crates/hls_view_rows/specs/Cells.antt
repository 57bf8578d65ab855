-- The texts of cells.
use Rattle.std.specs.Prelude.{ℕ, ◌++◌, codes, decimal}
use Rattle.hls_text.specs.Lines.{Text}

-- a first tick and a last one
abbrev pub span_text : (from to : ℕ) → Text
span_text from to = decimal from ++ (codes ".." ++ decimal to)

-- where there is nothing to tell
abbrev pub dash : Text
dash = codes "-"
