-- The rules of the virtual time and the tags of fair queueing by turns of a quantum.
use Rattle.std.specs.Prelude.{◌≡◌, ◌≢◌, ℕ, ◌+◌, ◌*◌, ◌≤◌, Some, None, max, true, false}
use Rattle.hls_chron.specs.declared.book.TickRow.{TickRow}
use Rattle.hls_chron.specs.declared.book.Event.{Event}
use Rattle.hls_chron.specs.declared.book.Event.TheVariants.{Seat, Leave, Settle}
use Rattle.hls_chron.specs.declared.plain.Sharing.{Sharing}
use Rattle.hls_chron.specs.declared.plain.Terms.{Terms}
use Rattle.hls_chron.specs.declared.plain.Terms.TheVariants.{Weight}
use Rattle.hls_chron.specs.Kinds.{by_shares}
use Rattle.hls_chron.specs.Ledger.{Ledger, now_of, with_row, with_mark}
use Rattle.hls_chron.specs.Seats.{SlotAsks, terms_at}
use Rattle.hls_kinds.specs.Made.{IsRow}
use Rattle.hls_kinds.specs.Tags.{tag_step, share_in, time_by, finish_by, start_tag}
use Rattle.hls_kinds.specs.Tenants.{tenant_then}
use Rattle.hls_kinds.specs.Turns.{turn_goes_on}

-- the virtual time of the present tick, and the start tag and the finish tag of a slot in it
abbrev pub time_of : (quantum : ℕ) → Ledger → ℕ
time_of quantum b = time_by quantum b (start_tag quantum b) (now_of b)

abbrev pub start_of : (quantum : ℕ) → Ledger → (slot : ℕ) → ℕ
start_of quantum b slot = start_tag quantum b (now_of b) slot

abbrev pub finish_of : (quantum : ℕ) → Ledger → (slot : ℕ) → ℕ
finish_of quantum b slot =
    finish_by quantum b (start_tag quantum b) (share_in (tenant_then b slot (now_of b))) slot (now_of b)

pub record KeepsTagRules (quantum : ℕ) (b : Ledger) : Type 0 where
  -- a seat starts at its finish tag, or at the virtual time if that is later
  pub starts : (slot weight : ℕ) → terms_at b slot ≡ Some (Weight weight)
      → start_of quantum b slot ≡ max (time_of quantum b) (finish_of quantum b slot)
  -- a tick that begins a turn: the virtual time is the start tag of its slot
  pub serves : (row : TickRow) (slot : ℕ) → row.to ≡ Some slot → turn_goes_on quantum b row.mask ≡ false
      → time_of quantum (with_row b row) ≡ start_of quantum b slot
  -- a tick that goes on with one leaves it
  pub goes_on : (row : TickRow) → turn_goes_on quantum b row.mask ≡ true
      → time_of quantum (with_row b row) ≡ time_of quantum b
  -- whoever is served finishes a step after its start
  pub finishes : (row : TickRow) (slot weight : ℕ) → row.to ≡ Some slot → terms_at b slot ≡ Some (Weight weight)
      → finish_of quantum (with_row b row) slot ≡ start_of quantum b slot + tag_step weight
  -- who is not served keeps its finish tag, and while nobody is served the virtual time stays
  pub waits : (row : TickRow) (slot : ℕ) → row.to ≢ Some slot
      → finish_of quantum (with_row b row) slot ≡ finish_of quantum b slot
  pub idles : (row : TickRow) → row.to ≡ None → time_of quantum (with_row b row) ≡ time_of quantum b
  -- a new seat finishes a quantum's steps after the virtual time, and so does each seat after a settling
  pub begins : (slot weight : ℕ) → finish_of quantum (with_mark b (Seat slot (Weight weight))) slot
      ≡ time_of quantum b + quantum * tag_step weight
  pub settles : (slot weight : ℕ) → terms_at b slot ≡ Some (Weight weight)
      → finish_of quantum (with_mark b Settle) slot ≡ time_of quantum b + quantum * tag_step weight
  -- seatings and leavings of others leave the finish tag, and no mark moves the virtual time
  pub beside : (slot other : ℕ) (terms : Terms) → other ≢ slot
      → finish_of quantum (with_mark b (Seat other terms)) slot ≡ finish_of quantum b slot
  pub without : (slot other : ℕ) → other ≢ slot
      → finish_of quantum (with_mark b (Leave other)) slot ≡ finish_of quantum b slot
  pub stays : (event : Event) → time_of quantum (with_mark b event) ≡ time_of quantum b

-- what a tick leaves of the virtual time and of start tags
pub record KeepsTagOrder (quantum : ℕ) (b : Ledger) (row : TickRow) : Type 0 where
  -- the virtual time never falls
  pub grows : time_of quantum b ≤ time_of quantum (with_row b row)
  -- and no seat that asks starts before it
  pub ahead : (slot weight : ℕ) → terms_at b slot ≡ Some (Weight weight) → SlotAsks row.mask slot
      → time_of quantum (with_row b row) ≤ start_of quantum b slot
  -- a start tag is fixed when its seat begins to ask, until the seat is served
  pub fixed : (slot weight : ℕ) → terms_at b slot ≡ Some (Weight weight) → SlotAsks row.mask slot
      → row.to ≢ Some slot → start_of quantum (with_row b row) slot ≡ start_of quantum b slot
  -- and then it is a step later
  pub goes_on : (slot weight : ℕ) → terms_at b slot ≡ Some (Weight weight) → row.to ≡ Some slot
      → start_of quantum (with_row b row) slot ≡ start_of quantum b slot + tag_step weight

abbrev pub KeepsTagOrderInTicks : (sharing : Sharing) → Ledger → Type 0
KeepsTagOrderInTicks sharing b =
    (row : TickRow) → IsRow (by_shares sharing) b row → KeepsTagOrder sharing.quantum b row
