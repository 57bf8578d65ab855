-- Bytes that may be told or not, before and after a call.
use Rattle.std.specs.Prelude.{◌≡◌, ℕ, ◌<◌, ◌≤◌, List, ◌++◌, length, take, drop, Option, Some, is_some, IfSome}
use Rattle.std.specs.Io.KnownBytes.{Appends, IsAtEnd}

-- whether the bytes are told stays as it was
abbrev pub TellsAlike : Option (List ℕ) → Option (List ℕ) → Type 0
TellsAlike old new = is_some new ≡ is_some old

-- these are all the told bytes, and none is left
pub record IsWhole (old new : Option (List ℕ)) (bytes : List ℕ) : Type 0 where
  pub whole : IfSome old (λ xs. xs ≡ bytes)
  pub end : IsAtEnd new

-- the first n of the told bytes are taken
abbrev pub TakesFirst : ℕ → Option (List ℕ) → Option (List ℕ) → Type 0
TakesFirst n old new = IfSome old (λ xs. new ≡ Some (drop n xs))

-- at most this many of the told bytes are taken, all from the front
abbrev pub TakesAtMost : ℕ → Option (List ℕ) → Option (List ℕ) → Type 0
TakesAtMost most old new = (n : ℕ) × (n ≤ most) × TakesFirst n old new

-- a part of the bytes is appended, from their front and not the whole
abbrev pub AppendsPart : Option (List ℕ) → Option (List ℕ) → List ℕ → Type 0
AppendsPart old new bytes = (n : ℕ) × (n < length bytes) × Appends old new (take n bytes)

-- a piece was put behind what a room held: of both a front was appended, and the room holds the rest
pub record Gathers (old new : Option (List ℕ)) (was room piece : List ℕ) : Type 0 where
  pub given : List ℕ
  pub written : Appends old new given
  pub rest : given ++ room ≡ was ++ piece
