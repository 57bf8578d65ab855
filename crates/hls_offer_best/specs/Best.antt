-- The best of a form that a seat can be promised.
use Rattle.std.specs.Prelude.{ℕ, ◌≤◌, false, Option, Some, None}
use Rattle.hls_guarantee.specs.declared.Guarantee.{Guarantee}
use Rattle.hls_guarantee.specs.declared.Guarantee.TheVariants.{Resb, Resc}
use Rattle.hls_offer_laws.specs.Offered.{CanOffer, IsOffered}
use Rattle.hls_offer_laws.specs.Candidates.{IsLeast, IsMost}
use Rattle.hls_offer_best.specs.declared.seat.Seat.{Seat}
use Rattle.hls_offer_best.specs.declared.windows.Window.{Window}
use Rattle.hls_offer_best.specs.declared.windows.Form.{Form}
use Rattle.hls_offer_best.specs.declared.windows.Form.TheVariants.{Blocks, Windows}

-- numbers in their ranges, and a guarantee for each port within the limits of a scenario
abbrev pub CanAsk : Seat → Type 0
CanAsk seat = CanOffer seat.place seat.haves.now

-- this can be promised to the seat
abbrev pub Offers : Seat → Guarantee → Type 0
Offers seat wanted = IsOffered seat.place seat.haves.now seat.depth wanted

-- the most of the numbers with a fact, or none where there is none
abbrev pub IsMostIfAny : (P : ℕ → Type 0) → Option ℕ → Type 0
IsMostIfAny P None = (n : ℕ) → P n → ⊥
IsMostIfAny P (Some n) = IsMost P n

abbrev pub IsLeastIfAny : (P : ℕ → Type 0) → Option ℕ → Type 0
IsLeastIfAny P None = (n : ℕ) → P n → ⊥
IsLeastIfAny P (Some n) = IsLeast P n

-- a soft reservation of this form
abbrev pub formed : Form → (x y : ℕ) → Guarantee
formed Blocks x y = Resb false x y
formed Windows x y = Resc false x y

pub record CanAskWindow (window : Window) : Type 0 where
  pub seat : CanAsk window.seat
  pub size : window.y ≤ 20000

-- so many ticks of the window can be promised
abbrev pub Gives : Window → (x : ℕ) → Type 0
Gives window x = Offers window.seat (formed window.form x window.y)

-- of so many ticks in a row one can be promised
abbrev pub Waits : Seat → (wait : ℕ) → Type 0
Waits seat wait = Offers seat (Resc false 1 wait)
