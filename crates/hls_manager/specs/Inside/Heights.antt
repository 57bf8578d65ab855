-- How deep the places of a load are, and how many fair queueing schedulers are above them.
use Rattle.hls_chron.specs.Ranges.{most_shares, most_levels}
use Rattle.std.specs.Prelude.{◌≡◌, ℕ, ◌<◌, ◌≤◌, List, [], ◌∷◌, ◌++◌, Option, Some, None, slice_get}
use Rattle.hls_text.specs.Lines.{Text}
use Rattle.hls_chron.specs.declared.plain.Config.{Config}
use Rattle.hls_scenario.specs.declared.scenario.Perch.{Perch}
use Rattle.hls_scenario.specs.declared.scenario.Command.TheVariants.{Load}
use Rattle.hls_report_text.specs.declared.refusal.Refusal.{Refusal}
use Rattle.hls_report_text.specs.declared.refusal.Refusal.TheVariants.{TooDeep, TooManyShares}
use Rattle.hls_machine.specs.Hierarchy.{Hierarchy}
use Rattle.hls_machine.specs.Legal.{IsChain}
use Rattle.hls_legal.specs.Levels.{HasNewChain}
use Rattle.hls_legal.specs.Refusals.{IsTooDeep, AreTooManyShares}
use Rattle.hls_tree.specs.declared.seat.Seat.{Seat}

-- schedulers from the processor down to the one at which a seat is
abbrev pub IsChainTo : Hierarchy → (parent : Option ℕ) → List ℕ → Type 0
IsChainTo h None chain = chain ≡ []
IsChainTo h (Some p) chain = (above : List ℕ) × (chain ≡ above ++ p ∷ []) × IsChain h None chain

-- a chain to the place of one of the first so many seats measures so much
pub record IsOnChain (h : Hierarchy) (measure : List ℕ → ℕ) (seats : List Seat) (ports most : ℕ) : Type 0 where
  pub port : ℕ
  pub within : port < ports
  pub seat : Seat
  pub at_port : slice_get seats port ≡ Some seat
  pub chain : List ℕ
  pub leads : IsChainTo h seat.parent chain
  pub measured : measure chain ≡ most

-- some chain to one of them measures that unless it is 0, and none measures more
pub record IsMost (h : Hierarchy) (measure : List ℕ → ℕ) (seats : List Seat) (ports most : ℕ) : Type 0 where
  pub reached : 0 < most → IsOnChain h measure seats ports most
  pub greatest : (port : ℕ) (seat : Seat) (chain : List ℕ) → port < ports → slice_get seats port ≡ Some seat
      → IsChainTo h seat.parent chain → measure chain ≤ most

-- a load is not too deep, and below no more than four fair queueing schedulers
pub record IsLowEnough (h : Hierarchy) (config : Config) (perches : List Perch) : Type 0 where
  pub levels : (level shares : ℕ) → HasNewChain h config perches level shares → level ≤ most_levels
  pub shares : (level shares : ℕ) → HasNewChain h config perches level shares → shares ≤ most_shares

-- it is too deep, or else below too many
abbrev pub IsHeightRefusal : Hierarchy → (name : Text) → Config → List Perch → Refusal → Type 0
IsHeightRefusal h name config perches (TooDeep level) = IsTooDeep h (Load name config perches) level
IsHeightRefusal h name config perches (TooManyShares shares) =
    AreTooManyShares h (Load name config perches) shares
    × ((level : ℕ) → ¬ IsTooDeep h (Load name config perches) level)
IsHeightRefusal h name config perches _ = ⊥
