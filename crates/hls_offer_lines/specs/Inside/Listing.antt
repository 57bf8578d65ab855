-- How the lines are found, one after the other.
use Rattle.std.specs.Prelude.{◌≡◌, ◌≢◌, ◌<◌, ℕ, true, List, Contains, All as Each}
use Rattle.hls_guarantee.specs.declared.Guarantee.{Guarantee}
use Rattle.hls_guarantee.specs.declared.Guarantee.TheVariants.{Null, Resb, Resc, Psbe}
use Rattle.hls_guarantee.specs.Limits.{IsNarrow, IsValid}
use Rattle.hls_offer_laws.specs.Offered.{IsLent, IsLentOf, IsShareOf}
use Rattle.hls_offer_laws.specs.Candidates.{HasPeriod}
use Rattle.hls_offer_best.specs.declared.seat.Seat.{Seat}
use Rattle.hls_offer_best.specs.declared.windows.Form.{Form}
use Rattle.hls_offer_best.specs.declared.windows.Form.TheVariants.{Blocks, Windows}
use Rattle.hls_offer_best.specs.Best.{Offers}

-- all that is lent to the seat
pub record AreLent (seat : Seat) (all : List Guarantee) : Type 0 where
  pub each : (lent : Guarantee) → Contains all lent → IsLent seat.place seat.haves.now lent
  pub every : (lent : Guarantee) → IsLent seat.place seat.haves.now lent → Contains all lent
  pub valid : Each IsValid all

-- a share, within the limits of derivations
abbrev pub IsValidShare : Guarantee → Type 0
IsValidShare (Psbe s d) = IsValid (Psbe s d)
IsValidShare _ = ⊥

-- the share of what a port with this lends, within the limits of a scenario, can be promised
pub record IsOfferedThrough (seat : Seat) (have share : Guarantee) : Type 0 where
  pub lent : Guarantee
  pub lends : IsLentOf seat.place.config seat.place.terms have lent
  pub some : lent ≢ Null
  pub is_share : IsShareOf lent share
  pub narrow : IsNarrow share
  pub offered : Offers seat share

-- a hard reservation of this form that may be offered where this is lent
abbrev pub MayGive : Form → (lent hard : Guarantee) → Type 0
MayGive Blocks (Resb hard x y) g = (hard ≡ true) × (g ≡ Resb true x y)
MayGive Blocks (Resc hard x y) g = (hard ≡ true) × (g ≡ Resb true x y)
MayGive Windows (Resc hard x y) g = (hard ≡ true) × (g ≡ Resc true x y)
MayGive _ _ g = ⊥

-- a period of what is lent, above another
pub record IsPeriodAbove (all : List Guarantee) (last y : ℕ) : Type 0 where
  pub lent : Guarantee
  pub is_lent : Contains all lent
  pub period : HasPeriod lent y
  pub above : last < y
