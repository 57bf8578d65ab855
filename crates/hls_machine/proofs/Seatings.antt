-- What seatings and leavings on a book change of a slot.
use Rattle.std.proofs.Common.{◌≡◌, ℕ, zero, suc, inl, inr, ◌≢◌, List, [], ◌∷◌, slice_get, Some, refl, sym, ap}
use Rattle.std.proofs.Common.{◌∙◌, arith, fold}
use Rattle.std.proofs.lemmas.List.Sums.{fold-append}
use Rattle.std.proofs.lemmas.Bool.{cases_eq, eq-eqb, ne_eqb}
use Rattle.hls_chron.specs.declared.plain.Terms.{Terms}
use Rattle.hls_kinds.specs.declared.tenant.Tenant.{Tenant}
use Rattle.hls_kinds.specs.declared.tenant.Tenant.TheVariants.{Sits}
use Rattle.hls_kinds.specs.Tenants.{tenant_after}
use Rattle.hls_machine.specs.Hierarchy.{Place, Processor, At, Seat}
use Rattle.hls_machine.specs.Steps.{seating_at, leaving_at, seatings, leavings}

-- each of these seats is elsewhere than at this slot
abbrev pub Elsewhere : List Seat → (k slot : ℕ) → Type 0
Elsewhere seats k slot = (port : ℕ) (seat : Seat) → slice_get seats port ≡ Some seat → seat.place ≢ At k slot

tail_elsewhere : (seat : Seat) (seats : List Seat) (k slot : ℕ) → Elsewhere (seat ∷ seats) k slot
    → Elsewhere seats k slot
tail_elsewhere seat seats k slot off port other e = off (suc port) other e

seating_off : (k slot now : ℕ) (terms : Terms) (place : Place) (t : Tenant) → place ≢ At k slot
    → fold (tenant_after slot now) t (seating_at k terms place) ≡ t
seating_off k slot now terms Processor t off = refl
seating_off k slot now terms (At p s) t off = elim (cases_eq p k) [
  | inr ne ↦ rw (ne_eqb p k ne) refl
  | inl e ↦ let apart : s ≡ slot → ⊥ = λ same. off (cc) in rw (eq-eqb p k e, ne_eqb s slot apart) refl
]

leaving_off : (k slot now : ℕ) (place : Place) (t : Tenant) → place ≢ At k slot
    → fold (tenant_after slot now) t (leaving_at k place) ≡ t
leaving_off k slot now Processor t off = refl
leaving_off k slot now (At p s) t off = elim (cases_eq p k) [
  | inr ne ↦ rw (ne_eqb p k ne) refl
  | inl e ↦ let apart : s ≡ slot → ⊥ = λ same. off (cc) in rw (eq-eqb p k e, ne_eqb s slot apart) refl
]

pub seatings_off : (seats : List Seat) (k slot now : ℕ) (t : Tenant) → Elsewhere seats k slot
    → fold (tenant_after slot now) t (seatings seats k) ≡ t
seatings_off [] k slot now t off = refl
seatings_off (seat ∷ seats) k slot now t off =
    fold-append (tenant_after slot now) t (seating_at k seat.terms seat.place) (seatings seats k)
    ∙ ap (λ x. fold (tenant_after slot now) x (seatings seats k))
    (seating_off k slot now seat.terms seat.place t (off 0 seat refl))
    ∙ seatings_off seats k slot now t (tail_elsewhere seat seats k slot off)

pub leavings_off : (seats : List Seat) (k slot now : ℕ) (t : Tenant) → Elsewhere seats k slot
    → fold (tenant_after slot now) t (leavings seats k) ≡ t
leavings_off [] k slot now t off = refl
leavings_off (seat ∷ seats) k slot now t off =
    fold-append (tenant_after slot now) t (leaving_at k seat.place) (leavings seats k)
    ∙ ap (λ x. fold (tenant_after slot now) x (leavings seats k))
    (leaving_off k slot now seat.place t (off 0 seat refl))
    ∙ leavings_off seats k slot now t (tail_elsewhere seat seats k slot off)

-- no two of these seats are at one place
abbrev pub Apart : List Seat → Type 0
Apart seats = (port other : ℕ) (one two : Seat) → slice_get seats port ≡ Some one
    → slice_get seats other ≡ Some two → one.place ≡ two.place → port ≡ other

seating_here : (k slot now : ℕ) (terms : Terms) (place : Place) (t : Tenant) → place ≡ At k slot
    → fold (tenant_after slot now) t (seating_at k terms place) ≡ Sits terms now
seating_here k slot now terms Processor t e = cc
seating_here k slot now terms (At p s) t e = let a : p ≡ k = cc in let b : s ≡ slot = cc in
    rw (eq-eqb p k a, eq-eqb s slot b) refl

rest_elsewhere : (seat : Seat) (seats : List Seat) (k slot : ℕ) → Apart (seat ∷ seats)
    → seat.place ≡ At k slot → Elsewhere seats k slot
rest_elsewhere seat seats k slot apart e port other f g =
    let same : zero ≡ suc port = apart 0 (suc port) seat other refl f (e ∙ sym g) in omega arith

pub tail_apart : (seat : Seat) (seats : List Seat) → Apart (seat ∷ seats) → Apart seats
tail_apart seat seats apart port other one two a b e = let same : suc port ≡ suc other =
    apart (suc port) (suc other) one two a b e in omega arith

-- after a seat was taken, one sits there on its terms from now on
pub seatings_here : (seats : List Seat) (k slot now port : ℕ) (seat : Seat) (t : Tenant) → Apart seats
    → slice_get seats port ≡ Some seat → seat.place ≡ At k slot
    → fold (tenant_after slot now) t (seatings seats k) ≡ Sits seat.terms now
seatings_here [] k slot now port seat t apart g e = cc
seatings_here (s ∷ seats) k slot now zero seat t apart g e =
    let same : s ≡ seat = cc in
    fold-append (tenant_after slot now) t (seating_at k s.terms s.place) (seatings seats k)
    ∙ seatings_off seats k slot now (fold (tenant_after slot now) t (seating_at k s.terms s.place))
    (rest_elsewhere s seats k slot apart (ap (λ (x : Seat). x.place) same ∙ e))
    ∙ seating_here k slot now s.terms s.place t (ap (λ (x : Seat). x.place) same ∙ e)
    ∙ ap (λ (x : Seat). Sits x.terms now) same
seatings_here (s ∷ seats) k slot now (suc port) seat t apart g e =
    fold-append (tenant_after slot now) t (seating_at k s.terms s.place) (seatings seats k)
    ∙ seatings_here seats k slot now port seat (fold (tenant_after slot now) t (seating_at k s.terms s.place))
    (tail_apart s seats apart) g e

pub record IsLone (port : ℕ) (seat other : Seat) : Type 0 where
  pub first : port ≡ 0
  pub same : seat ≡ other

pub lone_port : (seat other : Seat) (port : ℕ) → slice_get (seat ∷ []) port ≡ Some other
    → IsLone port seat other
lone_port seat other zero f = record { first = refl; same = cc }
lone_port seat other (suc port) f = absurd (cc)
