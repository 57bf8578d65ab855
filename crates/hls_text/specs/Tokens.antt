-- The tokens of a line.
use Rattle.std.specs.Prelude.{ℕ, ◌==◌, ◌||◌, Bool, true, List, [], ◌∷◌, if◌then◌else◌}
use Rattle.hls_text.specs.Lines.{Text, onto_first}

-- a space or a tab
abbrev pub is_blank : ℕ → Bool
is_blank b = b == 32 || b == 9

abbrev pub begins_blank : Text → Bool
begins_blank [] = true
begins_blank (b ∷ bs) = is_blank b

-- the runs of bytes that are not blank
unfoldable pub tokens_of : Text → List Text
tokens_of [] = []
tokens_of (b ∷ bs) = if is_blank b then tokens_of bs
    else (if begins_blank bs then (b ∷ []) ∷ tokens_of bs else onto_first b (tokens_of bs))
