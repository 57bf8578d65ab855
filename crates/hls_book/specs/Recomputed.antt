-- The server of a seat, recomputed from the ticks since it was seated or settled: which of them it asked in,
-- and which of them served it.
use Rattle.std.specs.Prelude.{ℕ, ◌+◌, Bool, suc}
use Rattle.hls_kinds.specs.declared.reservations.Reservation.{Reservation}
use Rattle.hls_chron.specs.Parts.{parts}
use Rattle.hls_kinds.specs.Reservations.{asked_before, deadline_after, budget_after, last_replenished}
use Rattle.hls_book.specs.declared.server.Server.{Server}

-- as it stands before the replenishment of the nth tick since
abbrev pub server_before : Reservation → (asks serves : ℕ → Bool) → ℕ → Server
server_before r asks serves n = record {
  x = r.x;
  y = r.y;
  parts = parts r.x r.y;
  budget = budget_after r serves (last_replenished r asks serves n) (r.since + n);
  deadline = deadline_after r (last_replenished r asks serves n);
  asked = asked_before r asks n;
}

-- and after it
abbrev pub server_within : Reservation → (asks serves : ℕ → Bool) → ℕ → Server
server_within r asks serves n = record {
  x = r.x;
  y = r.y;
  parts = parts r.x r.y;
  budget = budget_after r serves (last_replenished r asks serves (suc n)) (r.since + n);
  deadline = deadline_after r (last_replenished r asks serves (suc n));
  asked = asks (r.since + n);
}
