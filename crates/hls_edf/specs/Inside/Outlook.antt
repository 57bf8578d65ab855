-- What is known of the present tick: the choice, the earliest deadline of those that ask, and who has budget.
use Rattle.hls_chron.specs.Ranges.{most_slots}
use Rattle.std.specs.Prelude.{◌≡◌, ℕ, zero, suc, ◌<◌, ◌-◌, ◌^◌, List, Option, Some, None, Bool, false, min}
use Rattle.std.specs.Prelude.{nat_lt, if◌then◌else◌}
use Rattle.hls_chron.specs.Ledger.{Ledger}
use Rattle.hls_chron.specs.Seats.{terms_at}
use Rattle.hls_kinds.specs.Asks.{slot_asks, with_slot}
use Rattle.hls_book.specs.declared.server.Server.{Server}
use Rattle.hls_edf.specs.declared.choosing.Outlook.{Outlook}
use Rattle.hls_edf.specs.declared.servers.Need.{Need}
use Rattle.hls_edf.specs.declared.servers.Need.TheVariants.{Budget}
use Rattle.hls_edf.specs.Choice.{amid_in, soft_in, deadline_asking, choice_of}

-- later than each deadline
abbrev pub far : ℕ
far = 2 ^ 64 - 1

-- the earliest deadline of the first n slots that ask
unfoldable pub soonest_of : List Server → Ledger → (mask n : ℕ) → ℕ
soonest_of servers b mask zero = far
soonest_of servers b mask (suc n) =
    if slot_asks mask n then min (soonest_of servers b mask n) (amid_in servers b mask n).deadline
    else soonest_of servers b mask n

-- the deadline of a slot that asks, where it has budget
abbrev pub by_budget : Server → Option ℕ
by_budget server = if nat_lt 0 server.budget then Some server.deadline else None

abbrev pub with_funded : (slot : ℕ) → (funded : Bool) → (slots : ℕ) → ℕ
with_funded slot funded slots = if funded then with_slot slot slots else slots

-- these are all slots that may be served by this, and maybe others
pub record HasAll (among : ℕ) (need : Need) (servers : List Server) (b : Ledger) (mask : ℕ) : Type 0 where
  pub none : (slot : ℕ) → slot < most_slots → slot_asks among slot ≡ false
      → deadline_asking need servers b mask slot ≡ None

-- no seat is soft, unless that is said
pub record IsHard (soft : Bool) (b : Ledger) : Type 0 where
  pub hard : soft ≡ false → (slot : ℕ) → slot < most_slots → soft_in (terms_at b slot) ≡ false

pub record IsOutlook (o : Outlook) (servers : List Server) (b : Ledger) (mask : ℕ) : Type 0 where
  pub chosen : o.best ≡ choice_of servers b mask
  pub soonest : 0 < o.soonest → o.soonest ≡ soonest_of servers b mask most_slots
  pub funded : HasAll o.funded Budget servers b mask

-- one slot asks besides those that did
pub record IsJoined (slot mask later : ℕ) : Type 0 where
  pub joined : later ≡ with_slot slot mask
  pub silent : slot_asks mask slot ≡ false
