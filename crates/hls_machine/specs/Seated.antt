-- Who sits where: in each taken slot one port of one node, on the terms that the book has.
use Rattle.std.specs.Prelude.{◌≡◌, ℕ, Some}
use Rattle.hls_chron.specs.declared.plain.Terms.{Terms}
use Rattle.hls_chron.specs.Seats.{terms_at}
use Rattle.hls_machine.specs.Hierarchy.{Hierarchy, Place, Processor, At, Seat, seat_of, book_of}

-- a port of c sits at a place
pub record SitsThere (h : Hierarchy) (c port : ℕ) (place : Place) : Type 0 where
  pub seat : Seat
  pub sits : seat_of (h.nodes c) port ≡ Some seat
  pub at_place : seat.place ≡ place

pub record IsSeated (h : Hierarchy) : Type 0 where
  -- no two sit at one place
  pub alone : (c d port other : ℕ) (place : Place) → SitsThere h c port place → SitsThere h d other place
      → (c ≡ d) × (port ≡ other)
  -- who sits at a slot has it by the book, and in each slot that the book has taken somebody sits
  pub taken : (c port p slot : ℕ) (there : SitsThere h c port (At p slot))
      → terms_at (book_of (h.nodes p)) slot ≡ Some there.seat.terms
  pub sitters : (p slot : ℕ) (terms : Terms) → terms_at (book_of (h.nodes p)) slot ≡ Some terms
      → (c : ℕ) × (port : ℕ) × SitsThere h c port (At p slot)
  -- so does the root at the processor, and nobody else
  pub root : (c : ℕ) → h.root ≡ Some c → (port : ℕ) × SitsThere h c port Processor
  pub rooted : (c port : ℕ) → SitsThere h c port Processor → h.root ≡ Some c
