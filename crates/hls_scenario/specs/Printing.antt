-- Parts of a line's text.
use Rattle.std.specs.Prelude.{◌∷◌, codes}
use Rattle.hls_text.specs.Lines.{Text}
use Rattle.hls_scenario.specs.declared.scenario.Perch.{Perch}
use Rattle.hls_scenario.specs.Forms.{the, spaced, perch_forms}

-- a further perch
abbrev pub comma_text : Perch → Text
comma_text perch = spaced (the (codes ",") ∷ perch_forms perch)
