-- The promises of the books compose: at each moment each seat was supplied with what it is guaranteed.
use Rattle.std.proofs.Common.{◌≡◌, ℕ, zero, suc, ◌+◌, ◌<◌, List, [], ◌∷◌, slice_get, Bool, Option, Some, None}
use Rattle.std.proofs.Common.{refl, sym, ◌∙◌, subst, arith}
use Rattle.std.specs.Prelude.{map}
use Rattle.std.proofs.Common.{inl, inr}
use Rattle.hls_chron.specs.declared.plain.Terms.{Terms}
use Rattle.hls_chron.specs.declared.plain.Terms.TheVariants as variants
use Rattle.hls_chron.specs.declared.plain.Config.TheVariants as configs
use Rattle.hls_chron.specs.Ledger.{now_of}
use Rattle.hls_chron.specs.Seats.{asked, served}
use Rattle.hls_kinds.specs.declared.tenant.Tenant.TheVariants.{Sits}
use Rattle.hls_kinds.specs.Tenants.{tenant_at, settled_at}
use Rattle.hls_guarantee.specs.declared.Guarantee.{Guarantee}
use Rattle.hls_guarantee.specs.declared.Guarantee.TheVariants.{All}
use Rattle.hls_guarantee.specs.Supply.{Supplies}
use Rattle.hls_guarantee.specs.Steps.{LendsByTerms, LendsThrough}
use Rattle.hls_guarantee.proofs.Promises.{Agree, supplies-agree}
use Rattle.hls_book.specs.Promise.{given, asked_by, HasPorts}
use Rattle.hls_machine.specs.Derived.{Follows}
use Rattle.hls_machine.specs.Hierarchy.{Hierarchy, Tick, Node, Loaded, Admitted, Place, Processor, At, Seat}
use Rattle.hls_machine.specs.Hierarchy.{seats_of, seat_of, haves_of, book_of, config_of, since_of, asking_of}
use Rattle.hls_machine.specs.Hierarchy.{given_of}
use Rattle.hls_machine.specs.Linked.{since_at, asking_at, given_at, book_at, config_at}
use Rattle.hls_machine.specs.Linked.{SitsBelow, SitsAtProcessor, SitsAt}
use Rattle.hls_machine.specs.Linked.{IsLinked, KeepsPromises, IsSupplied}
use Rattle.hls_machine.proofs.Marks.{ports-empty}
use Rattle.hls_machine.proofs.Nodes.{IsCurrent, nobody_sits}
use Rattle.hls_machine.proofs.Kept.{IsSound}

-- what is given wherever it is asked for is all
all_given : (f a : ℕ → Bool) (lo hi : ℕ) → Agree a f lo hi → Supplies All f a lo hi
all_given f a lo hi same = record {
  met = λ i j x y all t u v. sym (same t (omega arith) (omega arith)) ∙ all t u v;
  capped = tt;
}

-- the processor lends all of it
record LendsAll (g h : Guarantee) : Type 0 where
  pub from : g ≡ All
  pub to : h ≡ All

lends_by : (terms : Terms) (g h : Guarantee) → LendsByTerms configs.Cpu terms g h → LendsAll g h
lends_by variants.Cpu All h by = record { from = refl; to = by }
lends_by _ _ _ by = absurd by

lends_all : (terms : Terms) (port : ℕ) (g h : Guarantee) → LendsThrough configs.Cpu terms port g h
    → LendsAll g h
lends_all terms port g h lends = elim lends.lends [ inl by ↦ lends_by terms g h by | inr none ↦ absurd none ]

-- only a scheduler has seats at slots, and its book counts what it counts
by_book : (past : ℕ → Tick) (k : ℕ) (node : Option Node) (slot since : ℕ) (terms : Terms) (g : Guarantee)
    (q hi : ℕ) → tenant_at (book_of node) slot ≡ Sits terms since
    → Supplies g (given_of past k node q) (asking_of past k node) (since_of node) hi
    → Supplies g (given (book_of node) q) (asked_by (config_of node) (book_of node))
    (settled_at (book_of node)) hi
by_book past k None slot since terms g q hi e h = absurd (nobody_sits 0 0 0 slot since terms e)
by_book past k (Some (Loaded s)) slot since terms g q hi e h = h
by_book past k (Some (Admitted t)) slot since terms g q hi e h = absurd (nobody_sits 0 0 0 slot since terms e)

-- one seat, where what its scheduler has is supplied
seat_supplied : (h : Hierarchy) (rank : ℕ → ℕ) → KeepsPromises h → (c port : ℕ) (seat : Seat) (p slot : ℕ)
    → HasPorts (config_at h p) (book_at h p) → SitsBelow h rank c port seat p slot
    → ((q : ℕ) (g : Guarantee) → slice_get (haves_of (h.nodes p)) q ≡ Some g
    → Supplies g (given_at h p q) (asking_at h p) (since_at h p) h.now)
    → Supplies seat.kept (given_at h c port) (asking_at h c) (since_at h c) h.now
seat_supplied h rank promises c port seat p slot ports s above =
    let d : Follows (config_at h p) seat.terms (haves_of (h.nodes p)) seat.kept = s.derived in
    let b = book_at h p in
    let gives = given b d.port in
    let asks = asked_by (config_at h p) b in
    let had : Supplies d.have gives asks (settled_at b) h.now =
    by_book h.past p (h.nodes p) slot s.from seat.terms d.have d.port h.now s.sits
    (above d.port d.have d.is_have) in
    let offered : Supplies d.offered gives asks (settled_at b) (now_of b) =
    d.first gives asks (settled_at b) (now_of b)
    (subst (λ (hi : ℕ). Supplies d.have gives asks (settled_at b) hi) (sym s.now) had) in
    let lent : Supplies d.lent (served b slot) (asked b slot) s.from (now_of b) =
    (promises p).kept ports slot s.from d.port seat.terms d.offered d.lent s.sits d.through offered in
    let kept : Supplies seat.kept (served b slot) (asked b slot) s.from h.now =
    d.last (served b slot) (asked b slot) s.from h.now
    (subst (λ (hi : ℕ). Supplies d.lent (served b slot) (asked b slot) s.from hi) s.now lent) in
    supplies-agree seat.kept (served b slot) (given_at h c port) (asked b slot) (asking_at h c) s.from h.now
    (since_at h c) s.since s.gives s.asks kept

-- a seat at the processor
root_supplied : (h : Hierarchy) (c port : ℕ) (seat : Seat) → SitsAtProcessor h c port seat
    → Supplies seat.kept (given_at h c port) (asking_at h c) (since_at h c) h.now
root_supplied h c port seat r =
    let d : Follows configs.Cpu seat.terms (All ∷ []) seat.kept = r.derived in
    let lends = lends_all seat.terms d.port d.offered d.lent d.through in
    let all = all_given (given_at h c port) (asking_at h c) (since_at h c) h.now r.gives in
    d.last (given_at h c port) (asking_at h c) (since_at h c) h.now
    (subst (λ (g : Guarantee). Supplies g (given_at h c port) (asking_at h c) (since_at h c) h.now)
    (sym lends.to) all)

-- what is had is guaranteed for a seat
record HasSeat (seats : List Seat) (port : ℕ) (g : Guarantee) : Type 0 where
  pub seat : Seat
  pub there : slice_get seats port ≡ Some seat
  pub keeps : seat.kept ≡ g

seat_had : (seats : List Seat) (port : ℕ) (g : Guarantee)
    → slice_get (map (λ (seat : Seat). seat.kept) seats) port ≡ Some g → HasSeat seats port g
seat_had [] port g e = absurd (cc)
seat_had (seat ∷ seats) zero g e = record { seat = seat; there = refl; keeps = cc }
seat_had (seat ∷ seats) (suc port) g e = let rest = seat_had seats port g e in
    record { seat = rest.seat; there = rest.there; keeps = rest.keeps }

have_supplied : (h : Hierarchy) (p q : ℕ) (g : Guarantee) → slice_get (haves_of (h.nodes p)) q ≡ Some g
    → ((port : ℕ) (seat : Seat) → seat_of (h.nodes p) port ≡ Some seat
    → Supplies seat.kept (given_at h p port) (asking_at h p) (since_at h p) h.now)
    → Supplies g (given_at h p q) (asking_at h p) (since_at h p) h.now
have_supplied h p q g e all =
    let had = seat_had (seats_of (h.nodes p)) q g e in
    subst (λ (w : Guarantee). Supplies w (given_at h p q) (asking_at h p) (since_at h p) h.now) had.keeps
    (all q had.seat had.there)

-- all seats, by rank
supplied_at : (h : Hierarchy) (rank : ℕ → ℕ) → IsLinked h rank → KeepsPromises h
    → (n c port : ℕ) (seat : Seat) (place : Place)
    → ((p q : ℕ) (seat : Seat) → rank p < n → seat_of (h.nodes p) q ≡ Some seat
    → Supplies seat.kept (given_at h p q) (asking_at h p) (since_at h p) h.now) → rank c < n + 1
    → SitsAt h rank c port seat place
    → Supplies seat.kept (given_at h c port) (asking_at h c) (since_at h c) h.now
supplied_at h rank linked promises n c port seat Processor above lt s = root_supplied h c port seat s
supplied_at h rank linked promises n c port seat (At p slot) above lt s =
    let lower : rank p < rank c = s.below in
    seat_supplied h rank promises c port seat p slot (linked.ports p) s
    (λ q g e. have_supplied h p q g e (λ r other. above p r other (omega arith)))

supplied_below : (h : Hierarchy) (rank : ℕ → ℕ) → IsLinked h rank → KeepsPromises h
    → (n c port : ℕ) (seat : Seat) → rank c < n → seat_of (h.nodes c) port ≡ Some seat
    → Supplies seat.kept (given_at h c port) (asking_at h c) (since_at h c) h.now
supplied_below h rank linked promises zero c port seat lt e = absurd (omega arith)
supplied_below h rank linked promises (suc n) c port seat lt e =
    supplied_at h rank linked promises n c port seat seat.place
    (λ p q. supplied_below h rank linked promises n p q) (omega arith) (linked.sits c port seat e)

pub supplied : (h : Hierarchy) (rank : ℕ → ℕ) → IsLinked h rank → KeepsPromises h → IsSupplied h
supplied h rank linked promises c port seat e = supplied_below h rank linked promises (rank c + 1) c port seat
    (omega arith) e

-- the books of what every step keeps are linked
has_ports : (now : ℕ) (node : Option Node) → IsCurrent now node → HasPorts (config_of node) (book_of node)
has_ports now None c = ports-empty configs.Cpu 0 0 0
has_ports now (Some (Loaded s)) c = c.ports
has_ports now (Some (Admitted t)) c = ports-empty configs.Cpu 0 0 0

pub linked : (h : Hierarchy) (rank : ℕ → ℕ) → IsSound h rank → IsLinked h rank
linked h rank sound = record { sits = sound.sits; ports = λ k. has_ports h.now (h.nodes k) (sound.current k) }
