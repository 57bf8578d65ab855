-- A few numbers among which the best one of a form is.
use Rattle.std.specs.Prelude.{◌≡◌, ◌≢◌, ◌⊎◌, ℕ, ◌+◌, ◌-◌, ◌*◌, ◌≤◌, Bool, false}
use Rattle.hls_frac.specs.declared.Frac.{Frac}
use Rattle.hls_chron.specs.declared.plain.Config.TheVariants.{Edf}
use Rattle.hls_chron.specs.declared.plain.Terms.TheVariants.{Res}
use Rattle.hls_guarantee.specs.declared.Guarantee.{Guarantee}
use Rattle.hls_guarantee.specs.declared.Guarantee.TheVariants.{Null, Resb, Resc, Psbe}
use Rattle.hls_guarantee.specs.Conversions.{Covers, HasTimes}
use Rattle.hls_derive.specs.declared.derivation.Place.{Place}
use Rattle.hls_offer_laws.specs.Offered.{IsShareOf}

pub record IsLeast (P : ℕ → Type 0) (n : ℕ) : Type 0 where
  pub meets : P n
  pub least : (less : ℕ) → P less → n ≤ less

pub record IsMost (P : ℕ → Type 0) (n : ℕ) : Type 0 where
  pub meets : P n
  pub most : (more : ℕ) → P more → more ≤ n

-- a share gives x of any y ticks in a row
abbrev pub Assures : Guarantee → (x y : ℕ) → Type 0
Assures (Psbe s d) x y = Covers s d x y
Assures _ x y = ⊥

-- ---- blocks as windows

-- x of each block of y are so many of any so many ticks
abbrev pub Slides : (ticks period x y : ℕ) → Type 0
Slides ticks period x y = (ticks ≤ x) × (2 * y + ticks ≤ 2 * x + period)

-- ---- windows: how many ticks of any y, or of each block of y, what is lent gives

-- its own of the same blocks, or the most of so many times its windows
abbrev pub HasTicks : Guarantee → (x y : ℕ) → Type 0
HasTicks (Resb hard ticks period) x y = (x ≡ ticks) × (y ≡ period)
HasTicks (Resc hard ticks period) x y = (1 ≤ x) × IsMost (λ more. HasTimes ticks period more y) x
HasTicks _ x y = ⊥

-- the most that its blocks give of windows
abbrev pub SpansTicks : Guarantee → (x y : ℕ) → Type 0
SpansTicks (Resb hard ticks period) x y = (1 ≤ x) × IsMost (λ more. Slides more y ticks period) x
SpansTicks _ x y = ⊥

-- the most that its share gives
pub record SharesTicks (lent : Guarantee) (x y : ℕ) : Type 0 where
  pub share : Guarantee
  pub is : IsShareOf lent share
  pub some : 1 ≤ x
  pub most : IsMost (λ ticks. Assures share ticks y) x

abbrev pub IsWindow : (lent : Guarantee) → (x y : ℕ) → Type 0
IsWindow lent x y = HasTicks lent x y ⊎ (SpansTicks lent x y ⊎ SharesTicks lent x y)

-- ---- waits: within how many ticks one comes

abbrev pub HasPeriod : Guarantee → (period : ℕ) → Type 0
HasPeriod (Resb hard ticks y) period = period ≡ y
HasPeriod (Resc hard ticks y) period = period ≡ y
HasPeriod _ period = ⊥

-- by blocks the ticks of one may come first and those of the next one last: one comes behind all between them
abbrev pub SpansBlocks : Guarantee → (wait : ℕ) → Type 0
SpansBlocks (Resb hard ticks period) wait = wait + 2 * ticks ≡ 2 * period + 1
SpansBlocks _ wait = ⊥

-- the least within which its share gives one
pub record SharesWait (lent : Guarantee) (wait : ℕ) : Type 0 where
  pub share : Guarantee
  pub is : IsShareOf lent share
  pub least : IsLeast (λ ticks. Assures share 1 ticks) wait

abbrev pub IsWait : (lent : Guarantee) → (wait : ℕ) → Type 0
IsWait lent wait = HasPeriod lent wait ⊎ (SpansBlocks lent wait ⊎ SharesWait lent wait)

-- ---- sizes: how many ticks of a period a reservation is to have

-- a seat by deadline
abbrev pub reservation : (hard : Bool) (x y : ℕ) → Place
reservation hard x y = record { config = Edf; terms = Res hard x y }

-- and the share of x of each block of y gives so many of so many ticks
abbrev pub Spreads : (ticks period x y : ℕ) → Type 0
Spreads ticks period x y = ticks * y + x * (2 * (y - x)) ≤ x * period

-- the share of x of each block of y has this rate, and starts no later
abbrev pub Provides : (s d : Frac) → (x y : ℕ) → Type 0
Provides s d x y = (s.num * y ≤ x * s.den) × (2 * (y - x) * s.num * d.den ≤ d.num * s.den)

-- the sizes but the next
abbrev pub IsDirectSize : (wanted : Guarantee) → (x y : ℕ) → Type 0
IsDirectSize Null x y = x ≡ 1
IsDirectSize (Resb false ticks period) x y =
    ((y ≡ period) × (x ≡ ticks)) ⊎ ((y ≢ period) × IsLeast (λ size. Slides ticks period size y) x)
IsDirectSize (Resc false ticks period) x y = IsLeast (λ size. Slides ticks period size y) x
IsDirectSize (Psbe s d) x y = IsLeast (λ size. Provides s d size y) x
IsDirectSize _ x y = ⊥

abbrev pub IsSpreadSize : (wanted : Guarantee) → (x y : ℕ) → Type 0
IsSpreadSize (Resb false ticks period) x y = (y ≢ period) × IsLeast (λ size. Spreads ticks period size y) x
IsSpreadSize (Resc false ticks period) x y = IsLeast (λ size. Spreads ticks period size y) x
IsSpreadSize _ x y = ⊥

-- the sizes for what is wanted, but hard blocks
abbrev pub IsSize : (wanted : Guarantee) → (x y : ℕ) → Type 0
IsSize wanted x y = IsDirectSize wanted x y ⊎ IsSpreadSize wanted x y
