-- What can be promised to a seat, as a list of lines.
use Rattle.std.specs.Prelude.{◌≡◌, ◌≢◌, ◌&&◌, ◌==◌, ◌++◌, ◌∷◌, ℕ, ◌≤◌, ◌<◌, Bool, true, false, List, []}
use Rattle.std.specs.Prelude.{All as Each, AllPairs, Contains, Option, Some, None, if◌then◌else◌}
use Rattle.std.specs.Prelude.{◌↔◌, option_map, option_to_list}
use Rattle.hls_frac.specs.declared.Frac.{Frac}
use Rattle.hls_guarantee.specs.declared.Guarantee.{Guarantee}
use Rattle.hls_guarantee.specs.declared.Guarantee.TheVariants.{All, Null, Resb, Resc, Psbe}
use Rattle.hls_guarantee.specs.declared.rule.RuleName.TheVariants.{R1}
use Rattle.hls_guarantee.specs.Conversions.{Converts}
use Rattle.hls_guarantee.specs.Limits.{IsNarrow}
use Rattle.hls_offer_laws.specs.Offered.{IsLent, IsShareOf}
use Rattle.hls_offer_laws.specs.Candidates.{HasPeriod}
use Rattle.hls_offer_best.specs.declared.seat.Seat.{Seat}
use Rattle.hls_offer_best.specs.declared.windows.Form.{Form}
use Rattle.hls_offer_best.specs.declared.windows.Form.TheVariants.{Blocks, Windows}
use Rattle.hls_offer_best.specs.Best.{IsLeastIfAny, IsMostIfAny, Offers, Waits}

-- all guarantees of a sort, each once
pub record ListsEach (P : Guarantee → Type 0) (lines : List Guarantee) : Type 0 where
  pub exact : (g : Guarantee) → Contains lines g ↔ P g
  pub once : AllPairs (λ g h. g ≢ h) lines

-- a hard reservation of this form
abbrev pub IsHardOf : Form → Guarantee → Type 0
IsHardOf Blocks (Resb hard x y) = hard ≡ true
IsHardOf Windows (Resc hard x y) = hard ≡ true
IsHardOf _ _ = ⊥

-- ---- shares

-- the second share is less than the first, or the same
abbrev pub Covers : (share lesser : Guarantee) → Type 0
Covers share lesser = Converts R1 share lesser

-- the share of something that is lent, within the limits of a scenario, can be promised
pub record IsOfferedShare (seat : Seat) (share : Guarantee) : Type 0 where
  pub lent : Guarantee
  pub is_lent : IsLent seat.place seat.haves.now lent
  pub is_share : IsShareOf lent share
  pub narrow : IsNarrow share
  pub offered : Offers seat share

-- none of the shares covers another
abbrev pub AreApart : List Guarantee → Type 0
AreApart shares = AllPairs (λ share other. (Covers share other → ⊥) × (Covers other share → ⊥)) shares

-- one of the shares covers this one
abbrev pub IsCovered : (shares : List Guarantee) → (lesser : Guarantee) → Type 0
IsCovered shares lesser = (share : Guarantee) × Contains shares share × Covers share lesser

-- something with this share is lent through a port
pub record IsShareAt (seat : Seat) (port : ℕ) (share : Guarantee) : Type 0 where
  pub lent : Guarantee
  pub is_lent : IsLent seat.place seat.haves.now lent
  pub through : is_lent.port ≡ port
  pub is_share : IsShareOf lent share

-- the share has an earlier port than any that the later one has
abbrev pub IsAhead : Seat → (share later : Guarantee) → Type 0
IsAhead seat share later =
    (port : ℕ) → IsShareAt seat port later → (earlier : ℕ) × (earlier < port) × IsShareAt seat earlier share

-- the shares stand in the order of the ports
abbrev pub AreInOrder : Seat → (shares : List Guarantee) → Type 0
AreInOrder seat shares = AllPairs (λ share later. IsAhead seat share later) shares

-- such shares of which none covers another, and which cover all such shares, in the order of the ports
pub record AreTopShares (seat : Seat) (shares : List Guarantee) : Type 0 where
  pub each : (share : Guarantee) → Contains shares share → IsOfferedShare seat share
  pub apart : AreApart shares
  pub cover : (share : Guarantee) → IsOfferedShare seat share → IsCovered shares share
  pub in_order : AreInOrder seat shares

-- and whatever share can be promised
abbrev pub CoverAll : Seat → (shares : List Guarantee) → Type 0
CoverAll seat shares =
    (s d : Frac) → IsNarrow (Psbe s d) → Offers seat (Psbe s d) → IsCovered shares (Psbe s d)

-- the share of each thing lent is within the limits of a scenario
abbrev pub HasNarrowShares : Seat → Type 0
HasNarrowShares seat =
    (lent share : Guarantee) → IsLent seat.place seat.haves.now lent → IsShareOf lent share → IsNarrow share

-- ---- windows

abbrev pub wait_line : (wait : Option ℕ) → Option Guarantee
wait_line wait = option_map (λ ticks. Resc false 1 ticks) wait

abbrev pub block_line : (y : ℕ) → (most : Option ℕ) → Option Guarantee
block_line y most = option_map (λ x. Resb false x y) most

abbrev pub is_wait : (wait : Option ℕ) → (x y : ℕ) → Bool
is_wait None x y = false
is_wait (Some wait) x y = (x == 1) && (y == wait)

-- the wait is not told again
abbrev pub window_line : (wait : Option ℕ) → (y : ℕ) → (most : Option ℕ) → Option Guarantee
window_line wait y None = None
window_line wait y (Some x) = if is_wait wait x y then None else Some (Resc false x y)

-- the most ticks of the blocks of one period, and then of its windows
pub record AreOfPeriod (seat : Seat) (wait : Option ℕ) (y : ℕ) (lines : List Guarantee) : Type 0 where
  pub blocks : Option ℕ
  pub windows : Option ℕ
  pub most_blocks : IsMostIfAny (λ x. Offers seat (Resb false x y)) blocks
  pub most_windows : IsMostIfAny (λ x. Offers seat (Resc false x y)) windows
  pub form : lines ≡ option_to_list (block_line y blocks) ++ option_to_list (window_line wait y windows)

-- of each of these periods, one period after the other
abbrev pub AreOfPeriods : Seat → (wait : Option ℕ) → (periods : List ℕ) → List Guarantee → Type 0
AreOfPeriods seat wait [] lines = lines ≡ []
AreOfPeriods seat wait (y ∷ periods) lines =
    (first others : List Guarantee) × AreOfPeriod seat wait y first × AreOfPeriods seat wait periods others
    × (lines ≡ first ++ others)

abbrev pub IsOwnPeriod : Seat → (y : ℕ) → Type 0
IsOwnPeriod seat y = (lent : Guarantee) × IsLent seat.place seat.haves.now lent × HasPeriod lent y

-- the periods of what is lent, rising
pub record AreOwnPeriods (seat : Seat) (periods : List ℕ) : Type 0 where
  pub rising : AllPairs (λ y later. y < later) periods
  pub each : (y : ℕ) → Contains periods y → IsOwnPeriod seat y
  pub every : (y : ℕ) → IsOwnPeriod seat y → Contains periods y

-- those of a list, or the own ones where no list is given
abbrev pub ArePeriodsOf : Seat → Option (List ℕ) → (periods : List ℕ) → Type 0
ArePeriodsOf seat None periods = AreOwnPeriods seat periods
ArePeriodsOf seat (Some list) periods = periods ≡ list

-- the lines of the periods that are asked about
pub record AreSpans (seat : Seat) (wait : Option ℕ) (list : Option (List ℕ)) (lines : List Guarantee) : Type 0 where
  pub periods : List ℕ
  pub are : ArePeriodsOf seat list periods
  pub spans : AreOfPeriods seat wait periods lines

-- ---- all lines

-- nothing, where there is no other line
abbrev pub or_nothing : List Guarantee → List Guarantee
or_nothing [] = Null ∷ []
or_nothing (g ∷ lines) = g ∷ lines

-- What can be promised, best first: every tick; hard blocks and hard windows; the shares from which the others follow,
-- in the order of the ports; the least wait; the most ticks of blocks and windows, period by period.
pub record AreOffers (seat : Seat) (list : Option (List ℕ)) (lines : List Guarantee) : Type 0 where
  pub whole : List Guarantee
  pub hard_blocks : List Guarantee
  pub hard_windows : List Guarantee
  pub shares : List Guarantee
  pub wait : Option ℕ
  pub spans : List Guarantee
  pub form : lines ≡ or_nothing (whole ++ hard_blocks ++ hard_windows ++ shares
      ++ option_to_list (wait_line wait) ++ spans)
  pub is_whole : ListsEach (λ g. (g ≡ All) × Offers seat g) whole
  pub are_hard_blocks : ListsEach (λ g. IsHardOf Blocks g × Offers seat g) hard_blocks
  pub are_hard_windows : ListsEach (λ g. IsHardOf Windows g × Offers seat g) hard_windows
  pub are_shares : AreTopShares seat shares
  pub cover : HasNarrowShares seat → CoverAll seat shares
  pub is_wait : IsLeastIfAny (λ ticks. Waits seat ticks) wait
  pub are_spans : AreSpans seat wait list spans

-- the periods of a list are those of guarantees
abbrev pub ArePeriodsAsked : Option (List ℕ) → Type 0
ArePeriodsAsked None = Unit {0}
ArePeriodsAsked (Some periods) = Each (λ y. y ≤ 20000) periods

-- the periods of a list, if there is one, rise
abbrev pub IsRising : Option (List ℕ) → Type 0
IsRising None = Unit {0}
IsRising (Some periods) = AllPairs (λ y later. y < later) periods
