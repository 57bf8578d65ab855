-- What every step keeps, and the ways in which a command keeps it for one seat.
use Rattle.std.proofs.Common.{◌≡◌, ℕ, ◌<◌, ◌≤◌, ◌≢◌, [], ◌∷◌, Option, Some, if◌then◌else◌, ◌==◌, refl, sym}
use Rattle.std.proofs.Common.{◌∙◌, arith}
use Rattle.std.proofs.lemmas.Bool.{eq-eqb, ne_eqb}
use Rattle.hls_chron.specs.declared.plain.Config.{Config}
use Rattle.hls_chron.specs.declared.plain.Config.TheVariants as configs
use Rattle.hls_chron.specs.declared.plain.Terms.{Terms}
use Rattle.hls_chron.specs.Ledger.{now_of}
use Rattle.hls_kinds.specs.declared.tenant.Tenant.TheVariants.{Sits}
use Rattle.hls_kinds.specs.Tenants.{tenant_at}
use Rattle.hls_guarantee.specs.declared.Guarantee.{Guarantee}
use Rattle.hls_guarantee.specs.declared.Guarantee.TheVariants.{All}
use Rattle.hls_machine.specs.Derived.{Follows}
use Rattle.hls_machine.specs.Hierarchy.{Hierarchy, Node, Seat, seats_of, seat_of, haves_of, book_of, config_of}
use Rattle.hls_machine.specs.Hierarchy.{since_of}
use Rattle.hls_machine.specs.Linked.{config_at, SitsBelow, SitsAtProcessor, SitsAt}
use Rattle.hls_machine.proofs.Nodes.{IsCurrent, Grown}

-- no two seats are at one place
pub record IsSeat (c d port other : ℕ) : Type 0 where
  pub node : c ≡ d
  pub port_same : port ≡ other

abbrev pub Alone : (ℕ → Option Node) → Type 0
Alone nodes = (c d port other : ℕ) (one two : Seat) → seat_of (nodes c) port ≡ Some one
    → seat_of (nodes d) other ≡ Some two → one.place ≡ two.place → IsSeat c d port other

pub record IsSound (h : Hierarchy) (rank : ℕ → ℕ) : Type 0 where
  pub current : (k : ℕ) → IsCurrent h.now (h.nodes k)
  pub sits : (c port : ℕ) (seat : Seat) → seat_of (h.nodes c) port ≡ Some seat
      → SitsAt h rank c port seat seat.place
  pub alone : Alone h.nodes

-- the nodes and the root of another hierarchy, at the tick of this one
abbrev pub at_tick : (h g : Hierarchy) → Hierarchy
at_tick h g = record g { now = h.now; past = h.past }

pub follows_along : (config other : Config) (terms : Terms) (node new : Option Node) (want : Guarantee)
    → other ≡ config → seats_of new ≡ seats_of node → Follows config terms (haves_of node) want
    → Follows other terms (haves_of new) want
follows_along config other terms any new want e same d = rw (e, same) d

-- a seat that stays where it is
pub sits_kept : (h g : Hierarchy) (rank later : ℕ → ℕ) (c port : ℕ) (seat : Seat) (p slot from : ℕ)
    → SitsBelow h rank c port seat p slot → Grown h.now h.past p (h.nodes p) (g.nodes p)
    → Grown h.now h.past c (h.nodes c) (g.nodes c) → later p < later c
    → tenant_at (book_of (g.nodes p)) slot ≡ Sits seat.terms from → from ≤ since_of (g.nodes c)
    → Follows (config_at h p) seat.terms (haves_of (g.nodes p)) seat.kept
    → SitsBelow (at_tick h g) later c port seat p slot
sits_kept h g rank later c port seat p slot from s above under lt sits since d = record {
  below = lt;
  now = above.clock ∙ s.now;
  from = from;
  sits = sits;
  since = since;
  asks = λ t a b. above.asked slot t ∙ s.asks t (omega (arith, under.since)) b ∙ sym (under.asking t b);
  gives = λ t a b. above.served slot t ∙ s.gives t (omega (arith, under.since)) b ∙ sym (under.given port t);
  derived = follows_along (config_at h p) (config_of (g.nodes p)) seat.terms (g.nodes p) (g.nodes p) seat.kept
      above.config refl d;
}

-- a seat whose accounts begin
pub sits_fresh : (h g : Hierarchy) (later : ℕ → ℕ) (c port : ℕ) (seat : Seat) (p slot : ℕ)
    → since_of (g.nodes c) ≡ h.now → now_of (book_of (g.nodes p)) ≡ h.now → later p < later c
    → tenant_at (book_of (g.nodes p)) slot ≡ Sits seat.terms h.now
    → Follows (config_of (g.nodes p)) seat.terms (haves_of (g.nodes p)) seat.kept
    → SitsBelow (at_tick h g) later c port seat p slot
sits_fresh h g later c port seat p slot fresh now lt sits d = record {
  below = lt;
  now = now;
  from = h.now;
  sits = sits;
  since = omega arith;
  asks = λ t a b. absurd (omega arith);
  gives = λ t a b. absurd (omega arith);
  derived = d;
}

pub reigns_kept : (h g : Hierarchy) (c port : ℕ) (seat : Seat) → SitsAtProcessor h c port seat
    → Grown h.now h.past c (h.nodes c) (g.nodes c) → g.root ≡ Some c → SitsAtProcessor (at_tick h g) c port seat
reigns_kept h g c port seat r under e = record {
  root = e;
  gives = λ t a b. under.asking t b ∙ r.gives t (omega (arith, under.since)) b ∙ sym (under.given port t);
  derived = r.derived;
}

pub reigns_fresh : (h g : Hierarchy) (c port : ℕ) (seat : Seat) → since_of (g.nodes c) ≡ h.now
    → g.root ≡ Some c → Follows configs.Cpu seat.terms (All ∷ []) seat.kept → SitsAtProcessor (at_tick h g) c port seat
reigns_fresh h g c port seat fresh e d =
    record { root = e; gives = λ t a b. absurd (omega arith); derived = d }

-- one node's node, and the others'
pub at_same : {A : Type 0} (k name : ℕ) (x y : A) → k ≡ name → (if k == name then x else y) ≡ x
at_same k name x y e = rw (eq-eqb k name e) refl

pub at_other : {A : Type 0} (k name : ℕ) (x y : A) → k ≢ name → (if k == name then x else y) ≡ y
at_other k name x y ne = rw (ne_eqb k name ne) refl
