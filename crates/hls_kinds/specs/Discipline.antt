-- The discipline of a scheduler, a fact about its book alone.
use Rattle.hls_chron.specs.Ranges.{most_slots}
use Rattle.std.specs.Prelude.{◌≡◌, ◌≢◌, ℕ, ◌≤◌, ◌<◌, Option, Some, None, Bool, true, false, if◌then◌else◌}
use Rattle.hls_chron.specs.declared.plain.Config.{Config}
use Rattle.hls_chron.specs.declared.plain.Config.TheVariants.{Cpu, Fp, Edf, Sfq, Rr, Wheel, Join}
use Rattle.hls_chron.specs.Ledger.{Ledger, now_of, row_at, before}
use Rattle.hls_chron.specs.Seats.{SlotAsks, priority_at}
use Rattle.hls_kinds.specs.Slots.{any_below, IsFirst}
use Rattle.hls_kinds.specs.Reservations.{deadline_at}
use Rattle.hls_kinds.specs.Tags.{start_tag}
use Rattle.hls_kinds.specs.Turns.{turn_slot, turn_goes_on, turns_after}
use Rattle.hls_kinds.specs.Frames.{owner_now}
use Rattle.hls_kinds.specs.Shares.{KeepsShares}
use Rattle.hls_kinds.specs.Asks.{asks, slot_asks, asks_in_budget, asks_softly}

-- the slot asks, it has a priority number, and no slot that asks has a lesser one
pub record HasLeastPriority (b : Ledger) (mask slot : ℕ) : Type 0 where
  pub asks : SlotAsks mask slot
  pub seated : priority_at b slot ≢ None
  pub least : (other priority rival : ℕ) → SlotAsks mask other → priority_at b slot ≡ Some priority
      → priority_at b other ≡ Some rival → priority ≤ rival

-- of the asking seats with budget, or where there is none of the asking soft seats, the one of least deadline
abbrev pub may_go : Ledger → (mask slot : ℕ) → Bool
may_go b mask slot =
    if any_below (asks_in_budget b mask) most_slots then asks_in_budget b mask slot else asks_softly b mask slot

-- the slot of the turn where it goes on, else the first asking slot by this key
pub record TakesTurn (quantum : ℕ) (b : Ledger) (key : ℕ → ℕ) (mask slot : ℕ) : Type 0 where
  pub goes_on : turn_goes_on quantum b mask ≡ true → slot ≡ turn_slot b
  pub passes : turn_goes_on quantum b mask ≡ false → IsFirst most_slots (slot_asks mask) key slot

pub record IsOwner (owner : Option ℕ) (mask slot : ℕ) : Type 0 where
  pub owns : owner ≡ Some slot
  pub asks : SlotAsks mask slot

pub record IsSole (mask slot : ℕ) : Type 0 where
  pub sole : slot ≡ 0
  pub asks : SlotAsks mask slot

-- the slot to serve, where these slots ask
abbrev pub Serves : Config → Ledger → ℕ → ℕ → Type 0
Serves Fp b mask slot = HasLeastPriority b mask slot
Serves Edf b mask slot = IsFirst most_slots (may_go b mask) (deadline_at b mask) slot
Serves (Sfq total most quantum) b mask slot = TakesTurn quantum b (start_tag quantum b (now_of b)) mask slot
Serves (Rr quantum) b mask slot = TakesTurn quantum b (turns_after (turn_slot b)) mask slot
Serves (Wheel frame) b mask slot = IsOwner (owner_now frame b) mask slot
Serves (Join ports) b mask slot = IsSole mask slot
Serves Cpu b mask slot = ⊥

-- In each tick in which a slot was served, the scheduler asked, and the slot was the one to serve. Fair
-- queueing besides keeps the shares of its seats.
pub record KeepsDiscipline (config : Config) (b : Ledger) : Type 0 where
  pub asked : (t slot : ℕ) → t < now_of b → (row_at b t).to ≡ Some slot
      → asks config (before t b) (row_at b t).mask ≡ true
  pub served : (t slot : ℕ) → t < now_of b → (row_at b t).to ≡ Some slot
      → Serves config (before t b) (row_at b t).mask slot
  pub shares : KeepsShares config b
