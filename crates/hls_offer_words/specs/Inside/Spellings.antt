-- Words that can stand in a line, and how many of them terms and guarantees have.
use Rattle.std.specs.Prelude.{ℕ, ◌&&◌, ◌||◌, nat_le, Bool, false, List, [], ◌∷◌, map, codes, if◌then◌else◌}
use Rattle.std.specs.List.{list_all}
use Rattle.std.specs.Str.{bytes_eq}
use Rattle.hls_text.specs.Lines.{Text}
use Rattle.hls_scenario.specs.Forms.{Form, the}

-- a byte that is no blank and begins no comment
abbrev pub is_sign : ℕ → Bool
is_sign b = nat_le 36 b && nat_le b 126

abbrev pub is_word : Text → Bool
is_word [] = false
is_word (b ∷ bs) = is_sign b && list_all is_sign bs

-- words as they are
abbrev pub plain : List Text → List Form
plain words = map (λ (word : Text). the word) words

-- how many words terms have that begin with this one
abbrev pub terms_count : Text → ℕ
terms_count first = if bytes_eq first (codes "res") then 4
    else (if bytes_eq first (codes "turn") || bytes_eq first (codes "sole") then 1 else 2)

-- how many words a guarantee has that begins with this one
abbrev pub wanted_count : Text → ℕ
wanted_count first = if bytes_eq first (codes "ALL") || bytes_eq first (codes "NULL") then 1 else 3
