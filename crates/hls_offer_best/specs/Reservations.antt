-- The cheapest reservation with which a guarantee can be had at a scheduler by deadline.
use Rattle.std.specs.Prelude.{◌≡◌, ◌≢◌, ◌⊎◌, ℕ, ◌≤◌, ◌<◌, Bool, true, false, List, length, All as Each, Contains}
use Rattle.std.specs.Prelude.{Option, Some, None}
use Rattle.hls_chron.specs.declared.plain.Terms.TheVariants.{Res}
use Rattle.hls_chron.specs.Ranges.{TermsInRange}
use Rattle.hls_chron.specs.Parts.{parts}
use Rattle.hls_guarantee.specs.declared.Guarantee.TheVariants.{Resb}
use Rattle.hls_guarantee.specs.Limits.{IsNarrow}
use Rattle.hls_offer_laws.specs.Offered.{IsOffered}
use Rattle.hls_offer_laws.specs.Candidates.{reservation}
use Rattle.hls_offer_best.specs.declared.reservations.Need.{Need}
use Rattle.hls_offer_best.specs.declared.reservations.Budget.{Budget}

-- a scheduler with one port, guarantees within the limits of a scenario, and no hard blocks wanted
pub record CanNeed (need : Need) : Type 0 where
  pub one : length need.haves.now ≡ 1
  pub each_have : Each IsNarrow need.haves.now
  pub wanted : IsNarrow need.wanted
  pub soft : (ticks period : ℕ) → need.wanted ≢ Resb true ticks period

-- what is wanted can be had with such a seat
abbrev pub Meets : Need → (hard : Bool) → Budget → Type 0
Meets need hard b = IsOffered (reservation hard b.x b.y) need.haves.now need.depth need.wanted

-- a seat may have this budget, in one of these periods
pub record IsOf (periods : List ℕ) (b : Budget) : Type 0 where
  pub range : TermsInRange (Res false b.x b.y)
  pub period : Contains periods b.y

-- the one is no dearer, and where it costs the same its period is no shorter
abbrev pub ComesFirst : (a b : Budget) → Type 0
ComesFirst a b = (parts a.x a.y < parts b.x b.y) ⊎ ((parts a.x a.y ≡ parts b.x b.y) × (b.y ≤ a.y))

-- a soft seat of this budget will do, and no seat that will do, hard or soft, comes before it
pub record IsCheapest (need : Need) (periods : List ℕ) (best : Budget) : Type 0 where
  pub of : IsOf periods best
  pub meets : Meets need false best
  pub first : (hard : Bool) (b : Budget) → IsOf periods b → Meets need hard b → ComesFirst best b

abbrev pub IsCheapestIfAny : Need → (periods : List ℕ) → Option Budget → Type 0
IsCheapestIfAny need periods None = (hard : Bool) (b : Budget) → IsOf periods b → Meets need hard b → ⊥
IsCheapestIfAny need periods (Some best) = IsCheapest need periods best
