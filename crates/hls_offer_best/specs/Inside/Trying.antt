-- How the best is found, one candidate after the other.
use Rattle.std.specs.Prelude.{ℕ, ◌≤◌, false, List, Option, Some, None}
use Rattle.hls_offer_laws.specs.Candidates.{IsSize}
use Rattle.hls_offer_best.specs.declared.reservations.Need.{Need}
use Rattle.hls_offer_best.specs.declared.reservations.Budget.{Budget}
use Rattle.hls_offer_best.specs.Reservations.{ComesFirst, IsOf, Meets}

-- no more than the most so far
abbrev pub IsUpTo : Option ℕ → ℕ → Type 0
IsUpTo None n = ⊥
IsUpTo (Some most) n = n ≤ most

-- no less than the least so far
abbrev pub IsFrom : Option ℕ → ℕ → Type 0
IsFrom None n = ⊥
IsFrom (Some least) n = least ≤ n

-- the cheapest so far comes first
abbrev pub ComesFirstOf : Option Budget → Budget → Type 0
ComesFirstOf None b = ⊥
ComesFirstOf (Some best) b = ComesFirst best b

-- it is of these periods, and will do
abbrev pub IsHad : Need → (periods : List ℕ) → Budget → Type 0
IsHad need periods b = IsOf periods b × Meets need false b

abbrev pub budget : (x y : ℕ) → Budget
budget x y = record { x = x; y = y }

-- none of the sizes of a period that will do comes before it
abbrev pub TriedPeriod : Need → Option Budget → (y : ℕ) → Type 0
TriedPeriod need best y =
    (x : ℕ) → IsSize need.wanted x y → x ≤ y → Meets need false (budget x y) → ComesFirstOf best (budget x y)
