-- What ties the books of a hierarchy to each other.
use Rattle.std.specs.Prelude.{◌≡◌, ℕ, ◌≤◌, ◌<◌, [], ◌∷◌, Some}
use Rattle.hls_chron.specs.declared.plain.Config.TheVariants as configs
use Rattle.hls_chron.specs.Ledger.{now_of}
use Rattle.hls_chron.specs.Seats.{asked, served}
use Rattle.hls_kinds.specs.declared.tenant.Tenant.TheVariants.{Sits}
use Rattle.hls_kinds.specs.Tenants.{tenant_at}
use Rattle.hls_guarantee.specs.declared.Guarantee.TheVariants.{All}
use Rattle.hls_guarantee.specs.Supply.{Supplies}
use Rattle.hls_book.specs.Promise.{HasPorts, KeepsPromise}
use Rattle.hls_machine.specs.Derived.{Follows}
use Rattle.hls_machine.specs.Hierarchy.{Hierarchy, Place, Processor, At, Seat, seat_of, book_of, config_of}
use Rattle.hls_machine.specs.Hierarchy.{haves_of}
use Rattle.hls_machine.specs.Hierarchy.{since_of, asking_of, given_of}
use Rattle.std.specs.Prelude.{Bool}
use Rattle.hls_chron.specs.declared.plain.Config.{Config}
use Rattle.hls_chron.specs.Ledger.{Ledger}

-- the book and the configuration of node k, what it counts since when, and in which ticks it asked and
-- was given the tick through a port
abbrev pub book_at : Hierarchy → (k : ℕ) → Ledger
book_at h k = book_of (h.nodes k)

abbrev pub config_at : Hierarchy → (k : ℕ) → Config
config_at h k = config_of (h.nodes k)

abbrev pub since_at : Hierarchy → (k : ℕ) → ℕ
since_at h k = since_of (h.nodes k)

abbrev pub asking_at : Hierarchy → (k : ℕ) → ℕ → Bool
asking_at h k t = asking_of h.past k (h.nodes k) t

abbrev pub given_at : Hierarchy → (k port : ℕ) → ℕ → Bool
given_at h k port t = given_of h.past k (h.nodes k) port t

-- A port of c sits at a slot of p. The book of p has had the seat from a tick on that is no later than
-- the one since which the accounts of c run, and in every tick since then the slot asks where c asks and
-- is served where c is given the tick through the port. Ranks rise along seats.
pub record SitsBelow (h : Hierarchy) (rank : ℕ → ℕ) (c port : ℕ) (seat : Seat) (p slot : ℕ) : Type 0 where
  pub below : rank p < rank c
  pub now : now_of (book_at h p) ≡ h.now
  pub from : ℕ
  pub sits : tenant_at (book_at h p) slot ≡ Sits seat.terms from
  pub since : from ≤ since_at h c
  pub asks : (t : ℕ) → since_at h c ≤ t → t < h.now → asked (book_at h p) slot t ≡ asking_at h c t
  pub gives : (t : ℕ) → since_at h c ≤ t → t < h.now → served (book_at h p) slot t ≡ given_at h c port t
  pub derived : Follows (config_at h p) seat.terms (haves_of (h.nodes p)) seat.kept

-- a port of c sits at the processor: it was given each tick in which it asked, and no other
pub record SitsAtProcessor (h : Hierarchy) (c port : ℕ) (seat : Seat) : Type 0 where
  pub root : h.root ≡ Some c
  pub gives : (t : ℕ) → since_at h c ≤ t → t < h.now → asking_at h c t ≡ given_at h c port t
  pub derived : Follows configs.Cpu seat.terms (All ∷ []) seat.kept

abbrev pub SitsAt : Hierarchy → (rank : ℕ → ℕ) → (c port : ℕ) → Seat → Place → Type 0
SitsAt h rank c port seat Processor = SitsAtProcessor h c port seat
SitsAt h rank c port seat (At p slot) = SitsBelow h rank c port seat p slot

-- every seat, and every book was given the processor through ports that its scheduler has
pub record IsLinked (h : Hierarchy) (rank : ℕ → ℕ) : Type 0 where
  pub sits : (c port : ℕ) (seat : Seat) → seat_of (h.nodes c) port ≡ Some seat
      → SitsAt h rank c port seat seat.place
  pub ports : (k : ℕ) → HasPorts (config_at h k) (book_at h k)

-- every book keeps its promise
abbrev pub KeepsPromises : Hierarchy → Type 0
KeepsPromises h = (k : ℕ) → KeepsPromise (config_at h k) (book_at h k)

-- each port of a node was supplied, since its accounts run, with what is guaranteed for its seat
abbrev pub IsSupplied : Hierarchy → Type 0
IsSupplied h = (c port : ℕ) (seat : Seat) → seat_of (h.nodes c) port ≡ Some seat
    → Supplies seat.kept (given_at h c port) (asking_at h c) (since_at h c) h.now
