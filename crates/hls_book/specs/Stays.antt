-- What the ticks of a stay leave of the server of its seat.
use Rattle.std.specs.Prelude.{◌≡◌, ℕ, ◌+◌, ◌-◌, ◌≤◌, ◌<◌, Bool, true}
use Rattle.hls_chron.specs.Ticks.{one_if}
use Rattle.hls_kinds.specs.declared.reservations.Reservation.{Reservation}
use Rattle.hls_book.specs.declared.server.Server.{Server}
use Rattle.hls_book.specs.Recomputed.{server_within}

-- each tick in which it asks leaves no more budget than there are ticks to its deadline
pub record EachTick (r : Reservation) (asks serves : ℕ → Bool) (now : ℕ) : Type 0 where
  pub fits : (n : ℕ) → r.since + n < now → asks (r.since + n) ≡ true
      → (server_within r asks serves n).budget - one_if (serves (r.since + n)) + (r.since + n + 1)
      ≤ (server_within r asks serves n).deadline

-- it is served from its budget alone
pub record EachHard (r : Reservation) (asks serves : ℕ → Bool) (now : ℕ) : Type 0 where
  pub budget : (n : ℕ) → r.since + n < now → serves (r.since + n) ≡ true
      → 0 < (server_within r asks serves n).budget

-- What a seat of every server keeps by itself: in the time to its deadline it has missed no more than a
-- reservation may miss.
pub record IsPaced (server : Server) (now : ℕ) : Type 0 where
  pub narrow : server.x ≤ server.y
  pub near : server.deadline ≤ now + server.y
  pub small : server.budget ≤ server.x
  pub paced : server.x + (server.deadline - now) ≤ server.budget + server.y
