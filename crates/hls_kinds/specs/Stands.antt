-- For how many ticks a scheduler asks as it does and serves whom it serves, where nothing but ticks comes.
use Rattle.hls_chron.specs.Ranges.{most_slots}
use Rattle.std.specs.Prelude.{ℕ, zero, suc, ◌+◌, ◌*◌, ◌-◌, ◌/◌, ◌%◌, Bool, true, false, Option, Some, None}
use Rattle.std.specs.Prelude.{if◌then◌else◌, min, max, nat_lt, ◌==◌}
use Rattle.hls_chron.specs.declared.plain.Config.{Config}
use Rattle.hls_chron.specs.declared.plain.Config.TheVariants.{Cpu, Fp, Edf, Sfq, Rr, Wheel, Join}
use Rattle.hls_chron.specs.Ledger.{Ledger, now_of}
use Rattle.hls_chron.specs.Seats.{terms_at}
use Rattle.hls_kinds.specs.Asks.{slot_asks, without_slot}
use Rattle.hls_kinds.specs.Reservations.{deadline_at, budget_at}
use Rattle.hls_kinds.specs.Frames.{owner_at}
use Rattle.hls_kinds.specs.Tags.{start_tag, tag_step}
use Rattle.hls_kinds.specs.Room.{weight_in}
use Rattle.hls_kinds.specs.Turns.{turn_ticks}

abbrev pub always : ℕ
always = 1000000

-- the rest of the quantum, where another slot asks than the one that is served
abbrev pub rest_of_turn : (quantum : ℕ) → Ledger → (mask : ℕ) → Option ℕ → ℕ
rest_of_turn quantum b mask None = always
rest_of_turn quantum b mask (Some slot) =
    if without_slot slot mask == 0 then always else quantum - turn_ticks b slot % quantum

-- the least of the ticks to the deadline of each asking slot below n, and `always`
unfoldable pub to_deadlines : Ledger → (mask n : ℕ) → ℕ
to_deadlines b mask zero = always
to_deadlines b mask (suc n) =
    if slot_asks mask n then min (to_deadlines b mask n) (deadline_at b mask n - now_of b)
    else to_deadlines b mask n

-- a budget where there is one
abbrev pub rest_of_budget : Ledger → (mask : ℕ) → Option ℕ → ℕ
rest_of_budget b mask None = always
rest_of_budget b mask (Some slot) =
    if budget_at b mask slot == 0 then always else budget_at b mask slot

-- two slots or none are the same
abbrev pub same_slot : Option ℕ → Option ℕ → Bool
same_slot None None = true
same_slot (Some slot) (Some other) = slot == other
same_slot _ _ = false

-- the first of the n ticks from the present one on whose place has another owner, if there is one
unfoldable pub owned_for : (owner : ℕ → Option ℕ) → (frame now n : ℕ) → ℕ
owned_for owner frame now zero = always
owned_for owner frame now (suc n) =
    let before = owned_for owner frame now n in
    if before == always
    then (if same_slot (owner ((now + n) % frame)) (owner (now % frame)) then always else n)
    else before

-- for how many ticks a tag that grows by a step a tick is not above another; slots go by their numbers where tags are
-- the same
abbrev pub ticks_apart : (first : Bool) → (mine theirs step : ℕ) → ℕ
ticks_apart first mine theirs step =
    min always (if first then (theirs - mine) / step + 1 else (theirs - mine + (step - 1)) / step)

abbrev pub apart_from : (slot mine step other : ℕ) → Option ℕ → ℕ
apart_from slot mine step other None = always
apart_from slot mine step other (Some theirs) =
    if other == slot then always else ticks_apart (nat_lt slot other) mine theirs step

-- the least of these over the slots below n, where these are the tags of those that ask
unfoldable pub to_rivals : (tags : ℕ → Option ℕ) → (slot mine step n : ℕ) → ℕ
to_rivals tags slot mine step zero = always
to_rivals tags slot mine step (suc n) =
    min (to_rivals tags slot mine step n) (apart_from slot mine step n (tags n))

abbrev pub tag_of_asking : (quantum : ℕ) → Ledger → (mask slot : ℕ) → Option ℕ
tag_of_asking quantum b mask slot = if slot_asks mask slot then Some (start_tag quantum b (now_of b) slot) else None

-- the first end of a turn at or after so many ticks, where this one lasts so much longer
abbrev pub turn_end : (quantum left ticks : ℕ) → ℕ
turn_end quantum left ticks = left + (ticks - left + (quantum - 1)) / quantum * quantum

abbrev pub rest_of_share : (quantum : ℕ) → Ledger → (mask : ℕ) → Option ℕ → ℕ
rest_of_share quantum b mask None = always
rest_of_share quantum b mask (Some slot) =
    if without_slot slot mask == 0 then always else
    min always (turn_end quantum (quantum - turn_ticks b slot % quantum)
    (to_rivals (tag_of_asking quantum b mask) slot (start_tag quantum b (now_of b) slot)
    (tag_step (weight_in (terms_at b slot))) most_slots))

abbrev pub stands_of : Config → Ledger → (mask : ℕ) → (granted : Bool) → (choice : Option ℕ) → ℕ
stands_of Fp b mask granted choice = always
stands_of (Join ports) b mask granted choice = always
stands_of (Rr quantum) b mask granted choice =
    if granted then rest_of_turn quantum b mask choice else always
stands_of Edf b mask granted choice =
    max 1 (if granted then min (to_deadlines b mask most_slots) (rest_of_budget b mask choice)
    else to_deadlines b mask most_slots)
stands_of (Sfq total most quantum) b mask granted choice =
    if granted then rest_of_share quantum b mask choice else always
stands_of (Wheel frame) b mask granted choice = max 1 (owned_for (owner_at b) frame (now_of b) frame)
stands_of Cpu b mask granted choice = always

-- while it is not granted, a scheduler of this kind stands always
abbrev pub stands_idle : Config → Bool
stands_idle Cpu = true
stands_idle Fp = true
stands_idle Edf = false
stands_idle (Sfq total most quantum) = true
stands_idle (Rr quantum) = true
stands_idle (Wheel frame) = false
stands_idle (Join ports) = true
