-- Readings that may find nothing, one after another.
use Rattle.std.specs.Prelude.{◌≡◌, Option, Some, None}

infixl 10 ◌>>=◌
abbrev pub ◌>>=◌ : {A B : Type 0} → Option A → (A → Option B) → Option B
None >>= f = None
(Some x) >>= f = f x

-- the first reading, or else the second
abbrev pub first_of_two : {A B : Type 0} → Option A → (A → Option B) → Option B → Option B
first_of_two None f other = other
first_of_two (Some x) f other = f x

-- what was returned, seen by view, is what reading gives
abbrev pub Gives : {X Y : Type 0} → (X → Y) → Option X → Option Y → Type 0
Gives view None read = read ≡ None
Gives view (Some x) read = read ≡ Some (view x)
