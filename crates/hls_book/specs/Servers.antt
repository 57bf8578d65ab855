-- Servers of slots, and what they keep together.
use Rattle.std.specs.Prelude.{◌≡◌, ℕ, ◌+◌, ◌*◌, ◌-◌, ◌≤◌, ◌<◌, Bool, true, false, nat_le, nat_lt, ◌==◌, ◌||◌}
use Rattle.std.specs.Prelude.{if◌then◌else◌}
use Rattle.hls_kinds.specs.Slots.{sum_below}
use Rattle.hls_chron.specs.Parts.{parts}
use Rattle.hls_book.specs.declared.server.Server.{Server}
use Rattle.hls_book.specs.Demand.{claimed}

-- the server of a free slot
abbrev pub vacant : Server
vacant = record { x = 0; y = 0; parts = 0; budget = 0; deadline = 0; asked = false }

-- of a reservation that has nothing yet
abbrev pub offered : (x y : ℕ) → Server
offered x y = record { x = x; y = y; parts = parts x y; budget = 0; deadline = 0; asked = false }

-- of a seat that was seated or settled at the tick `now`
abbrev pub fresh : Server → ℕ → Server
fresh server now = record server { budget = server.x; deadline = now; asked = false }

-- of a seat that is replenished at the tick `now`
abbrev pub renewed : Server → ℕ → Server
renewed server now = record server { budget = server.x; deadline = now + server.y; asked = true }

-- with a note whether it asks
abbrev pub marked : Server → Bool → Server
marked server asked = record server { asked = asked }

-- a seat that asks is replenished at the tick `now`: it has asked on to its deadline, or it wakes with too
-- much
unfoldable pub is_due : (whole : ℕ) → Server → ℕ → Bool
is_due whole server now =
    if server.asked then server.deadline == now
    else nat_le server.deadline now || nat_lt (server.parts * (server.deadline - now))
    (server.budget * whole)

-- after the replenishment of the tick `now`, if there is one
unfoldable pub replenished : (whole : ℕ) → Server → (asks : Bool) → ℕ → Server
replenished whole server asks now =
    if asks then (if is_due whole server now then renewed server now else marked server true)
    else marked server false

-- after a tick that served it
abbrev pub charged : Server → Server
charged server = record server { budget = server.budget - 1 }

abbrev pub claimed_by : (whole : ℕ) → Server → (now bound : ℕ) → ℕ
claimed_by whole server now bound =
    claimed server.asked whole server.budget server.deadline server.parts now bound

-- the budget is no more than what a replenishment gives, and the parts are no less than x of every y ticks
pub record IsServer (whole : ℕ) (server : Server) : Type 0 where
  pub small : server.budget ≤ server.x
  pub rate : server.x * whole ≤ server.parts * server.y
  pub live : server.asked ≡ true → 0 < server.parts

abbrev pub parts_in : (ℕ → Server) → ℕ → ℕ
parts_in servers n = sum_below (λ slot. (servers slot).parts) n

abbrev pub claimed_in : ℕ → (ℕ → Server) → (n now bound : ℕ) → ℕ
claimed_in whole servers n now bound = sum_below (λ slot. claimed_by whole (servers slot) now bound) n

-- the n slots together take up no more parts than there are
pub record AreSound (whole n : ℕ) (servers : ℕ → Server) : Type 0 where
  pub fits : parts_in servers n ≤ whole
  pub sound : (slot : ℕ) → slot < n → IsServer whole (servers slot)

-- Up to any bound, what the slots may still use is no more than their parts of the ticks to come: before or
-- after the replenishments of the tick `now`.
pub record HaveRoom (whole n : ℕ) (servers : ℕ → Server) (now : ℕ) : Type 0 where
  pub room : (bound : ℕ) → now ≤ bound → claimed_in whole servers n now bound
      ≤ parts_in servers n * (bound - now)
