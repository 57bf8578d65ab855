-- The start tags of the slots that ask, as a queue.
use Rattle.hls_chron.specs.Ranges.{most_slots}
use Rattle.std.specs.Prelude.{◌≡◌, ℕ, ◌<◌, List, Option, length}
use Rattle.hls_chron.specs.Ledger.{Ledger}
use Rattle.hls_kinds.specs.Stands.{tag_of_asking}
use Rattle.hls_order.specs.Order.{key_of}
use Rattle.hls_box.specs.declared.turns.Turn.{Turn}
use Rattle.hls_sfq.specs.Choice.{tag_asking, choice_of}
use Rattle.hls_sfq.specs.declared.shares.FairSeat.{FairSeat}

-- exactly the asking seats are in the queue, by the start tags of the present tick
abbrev pub QueuesTags : (quantum : ℕ) → Ledger → (mask : ℕ) → (keys : List (Option ℕ)) → Type 0
QueuesTags quantum b mask keys = (slot : ℕ) → slot < most_slots → key_of keys slot ≡ tag_of_asking quantum b mask slot

-- the same by what a box holds
pub record IsQueue (keys : List (Option ℕ)) (time : ℕ) (seats : List (Option FairSeat)) (mask : ℕ) : Type 0 where
  pub size : length keys ≡ most_slots
  pub tags : (slot : ℕ) → slot < most_slots → key_of keys slot ≡ tag_asking time seats mask slot

-- whatever the tags are by which the slots that ask are in the queue, this is the choice
abbrev pub IsNext : (keys : List (Option ℕ)) → Turn → (mask : ℕ) → Option ℕ → Type 0
IsNext keys turn mask next = (time : ℕ) (seats : List (Option FairSeat)) → IsQueue keys time seats mask
    → next ≡ choice_of turn time seats mask
