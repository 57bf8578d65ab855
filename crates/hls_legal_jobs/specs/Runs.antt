-- Reservations of the threads of a hierarchy.
use Rattle.std.specs.Prelude.{◌≡◌, ℕ, Some, Bool}
use Rattle.hls_chron.specs.declared.plain.Terms.TheVariants.{Res}
use Rattle.hls_kinds.specs.declared.reservations.Reservation.{Reservation}
use Rattle.hls_guarantee.specs.declared.Guarantee.TheVariants.{All}
use Rattle.hls_machine.specs.Hierarchy.{Hierarchy, Thread, Admitted, Seat, At, seat_of}

-- every tick in which it asks is guaranteed for a port of node k
pub record IsGivenAll (h : Hierarchy) (k : ℕ) : Type 0 where
  pub port : ℕ
  pub seat : Seat
  pub sits : seat_of (h.nodes k) port ≡ Some seat
  pub kept : seat.kept ≡ All

-- Node k is a thread that sits as this reservation, hard or soft, on a scheduler for which every tick is guaranteed;
-- its stay began when that of the reservation did.
pub record HasReservation (h : Hierarchy) (k : ℕ) (r : Reservation) : Type 0 where
  pub thread : Thread
  pub there : h.nodes k ≡ Some (Admitted thread)
  pub scheduler : ℕ
  pub slot : ℕ
  pub sits : thread.seat.place ≡ At scheduler slot
  pub hard : Bool
  pub terms : thread.seat.terms ≡ Res hard r.x r.y
  pub since : thread.stay ≡ r.since
  pub all : IsGivenAll h scheduler
