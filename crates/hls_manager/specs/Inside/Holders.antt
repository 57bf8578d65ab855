-- What is derived anew for who holds a seat.
use Rattle.std.specs.Prelude.{ℕ, [], ◌∷◌, Option, Some, None}
use Rattle.hls_chron.specs.declared.plain.Terms.{Terms}
use Rattle.hls_chron.specs.declared.plain.Terms.TheVariants as terms
use Rattle.hls_guarantee.specs.declared.Guarantee.{Guarantee}
use Rattle.hls_guarantee.specs.declared.Guarantee.TheVariants as guarantees
use Rattle.hls_machine.specs.Hierarchy.{Hierarchy, Seat, SeatHolder, seat_of, config_of, name_of}
use Rattle.hls_legal.specs.Dues.{Due, told_name}

-- the terms of a seat, and what is kept for it
abbrev pub terms_of : Option Seat → Terms
terms_of None = terms.Cpu
terms_of (Some seat) = seat.terms

abbrev pub kept_of : Option Seat → Guarantee
kept_of None = guarantees.Null
kept_of (Some seat) = seat.kept

-- for the seat of a holder on scheduler k, once k has another guarantee
abbrev pub due_held : Hierarchy → (k : ℕ) → (has : Guarantee) → SeatHolder → Due
due_held h k has s = record {
  name = told_name (name_of (h.nodes s.node));
  port = s.port;
  place = record { config = config_of (h.nodes k); terms = terms_of (seat_of (h.nodes s.node) s.port) };
  haves = has ∷ [];
  want = kept_of (seat_of (h.nodes s.node) s.port);
}
