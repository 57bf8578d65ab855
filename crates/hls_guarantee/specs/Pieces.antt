-- The pieces of a list that is cut before the items e, e + y, e + 2 * y and so on.
use Rattle.std.specs.Prelude.{◌≡◌, ℕ, zero, suc, ◌+◌, ◌*◌, min}

-- where piece k begins
abbrev pub piece_start : (e y k : ℕ) → ℕ
piece_start e y zero = 0
piece_start e y (suc k) = e + k * y

-- piece k of a list of this length is of the n items from i on
pub record IsPiece (e y len k i n : ℕ) : Type 0 where
  pub first : i ≡ piece_start e y k
  pub last : i + n ≡ min (piece_start e y (suc k)) len
