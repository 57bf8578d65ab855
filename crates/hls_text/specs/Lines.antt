-- The lines of a text, and what of a line counts.
use Rattle.std.specs.Prelude.{ℕ, ◌==◌, ◌||◌, ◌&&◌, nat_le, nat_lt, ◌-◌, length, take, slice_index, Bool}
use Rattle.std.specs.Prelude.{false, not, List, [], ◌∷◌, if◌then◌else◌, take_while}
use Rattle.std.specs.List.{list_all}

abbrev pub Text : Type 0
Text = List ℕ

-- a byte before the first of some parts
abbrev pub onto_first : ℕ → List Text → List Text
onto_first b [] = (b ∷ []) ∷ []
onto_first b (part ∷ parts) = (b ∷ part) ∷ parts

-- the text is at the end of a line
abbrev pub at_end : Text → Bool
at_end [] = false
at_end (b ∷ bs) = b == 10

-- each line without the byte 10 that ends it, and without a byte 13 just before that
unfoldable pub lines_of : Text → List Text
lines_of [] = []
lines_of (b ∷ bs) = if b == 10 then [] ∷ lines_of bs
    else (if b == 13 && at_end bs then lines_of bs else onto_first b (lines_of bs))

-- bytes without a byte 13 at their end
abbrev pub ends_in_return : Text → Bool
ends_in_return line = nat_lt 0 (length line) && slice_index line (length line - 1) == 13

abbrev pub without_return : Text → Text
without_return line = if ends_in_return line then take (length line - 1) line else line

-- the line without its comment
abbrev pub shown_of : Text → Text
shown_of line = take_while (λ b. not (b == 35)) line

-- a tab, a space or a visible sign
abbrev pub may_stand : ℕ → Bool
may_stand b = b == 9 || (nat_le 32 b && nat_le b 126)

-- no byte outside the comment is forbidden
abbrev pub is_clean_line : Text → Bool
is_clean_line line = list_all may_stand (shown_of line)
