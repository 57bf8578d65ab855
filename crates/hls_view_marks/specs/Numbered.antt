-- The texts of things in a row, each with its place.
use Rattle.std.specs.Prelude.{ℕ, suc, List, [], ◌∷◌, ◌++◌}
use Rattle.hls_text.specs.Lines.{Text}

-- from a place on
abbrev pub numbered : {V : Type 0} → (ℕ → V → Text) → ℕ → List V → Text
numbered text place [] = []
numbered text place (thing ∷ things) = text place thing ++ numbered text (suc place) things
