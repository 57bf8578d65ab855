-- The elements of a picture, each on a line of its own.
use Rattle.std.specs.Prelude.{ℕ, [], ◌∷◌, codes, decimal}
use Rattle.hls_text.specs.Lines.{Text}
use Rattle.hls_view_pieces.specs.Pieces.{as_one}

-- what would be empty is left out
abbrev pub unless_empty : Text → Text → Text
unless_empty [] shown = []
unless_empty (b ∷ bs) shown = shown

-- ---- paths

unfoldable pub path_of : (class way : Text) → Text
path_of class way = as_one (codes "<path class=\"" ∷ class ∷ codes "\" d=\"" ∷ way ∷ codes "\"/>\n" ∷ [])

unfoldable pub path_text : (class way : Text) → Text
path_text class way = unless_empty way (path_of class way)

-- the way around a rectangle
unfoldable pub area_text : (x y wide high : ℕ) → Text
area_text x y wide high = as_one (codes "M" ∷ decimal x ∷ codes " " ∷ decimal y ∷ codes "h" ∷ decimal wide
    ∷ codes "v" ∷ decimal high ∷ codes "h-" ∷ decimal wide ∷ codes "z" ∷ [])

-- a rectangle that is not seen, and its title
unfoldable pub strip_text : (x y wide high : ℕ) → (title : Text) → Text
strip_text x y wide high title = as_one (codes "<path class=\"v\" d=\"" ∷ area_text x y wide high
    ∷ codes "\"><title>" ∷ title ∷ codes "</title></path>\n" ∷ [])

-- ---- texts

unfoldable pub class_part : (class : Text) → Text
class_part class = unless_empty class (as_one (codes " class=\"" ∷ class ∷ codes "\"" ∷ []))

unfoldable pub text_of : (class : Text) → (x y : ℕ) → Text → Text
text_of class x y text = as_one (codes "<text" ∷ class_part class ∷ codes " x=\"" ∷ decimal x ∷ codes "\" y=\""
    ∷ decimal y ∷ codes "\">" ∷ text ∷ codes "</text>\n" ∷ [])

unfoldable pub text_text : (class : Text) → (x y : ℕ) → Text → Text
text_text class x y text = unless_empty text (text_of class x y text)
