-- From which place on nobody owns one, after an event.
use Rattle.std.proofs.Common.{◌≡◌, ℕ, zero, suc, ◌+◌, ◌-◌, ◌<◌, ◌≤◌, List, Some, None, refl, ap, arith}
use Rattle.std.proofs.Common.{◌∙◌, inl, inr}
use Rattle.std.specs.Prelude.{Option, is_none, min, nat_lt, ◌&&◌, if◌then◌else◌}
use Rattle.std.proofs.lemmas.Bool.{cases_lt, le-ltb}
use Rattle.hls_chron.specs.declared.book.Event.{Event}
use Rattle.hls_chron.specs.declared.book.Event.TheVariants.{Seat, Leave, Settle}
use Rattle.hls_chron.specs.declared.plain.Terms.{Terms}
use Rattle.hls_chron.specs.declared.plain.Terms.TheVariants.{Slots}
use Rattle.hls_chron.specs.declared.plain.Terms.TheVariants as terms
use Rattle.hls_chron.specs.Seats.{is_slot}
use Rattle.hls_kinds.specs.Frames.{owner_in, owner_after, free_below}
use Rattle.hls_kinds.proofs.TickLaws.{count_first-hit}
use Rattle.hls_wheel.specs.Owners.{IsFreeFrom}

-- nobody's places are counted
free_places : (owners : List (Option ℕ)) (top k : ℕ) → top + k ≤ 1000 → IsFreeFrom owners top
    → k ≤ free_below (owner_in owners) (top + k)
free_places owners top zero few free = omega arith
free_places owners top (suc k) few free =
    let before = free_places owners top k (omega (arith, few)) free in
    let here : owner_in owners (top + k) ≡ None = free (top + k) (omega arith) (omega (arith, few)) in
    let next = count_first-hit (λ p. is_none (owner_in owners p)) (top + k) (ap is_none here) in
    let same : top + suc k ≡ (top + k) + 1 = omega arith in
    rw same (omega (arith, before, next))

-- a place where so many are free below
not_taken : (owner : Option ℕ) (free places slot : ℕ) → owner ≡ None → places ≤ free
    → (if is_none owner && nat_lt free places then Some slot else owner) ≡ None
not_taken owner free places slot none le = rw none (elim (cases_lt free places) [
  | inl less ↦ absurd (omega (arith, le, less))
  | inr past ↦ rw (le-ltb free places le) refl
])

pub seated_free : (owners after : List (Option ℕ)) (slot places top bound : ℕ) → IsFreeFrom owners top
    → ((place : ℕ) → place < 1000
    → owner_in after place ≡ owner_after (owner_in owners) (Seat slot (Slots places)) place)
    → (bound < 1000 → top + places ≤ bound) → IsFreeFrom after bound
seated_free owners after slot places top bound free is past = λ place le lt.
    let le_here : top + places ≤ bound = past (omega (arith, le, lt)) in
    let below : place - top ≤ free_below (owner_in owners) (top + (place - top)) =
    free_places owners top (place - top) (omega (arith, le, lt, le_here)) free in
    let same : top + (place - top) ≡ place = omega (arith, le, le_here) in
    let here : place - top ≤ free_below (owner_in owners) place = rw same at below in
    let many : places ≤ free_below (owner_in owners) place = omega (arith, here, le, le_here) in
    is place lt ∙ not_taken (owner_in owners place) (free_below (owner_in owners) place) places slot
    (free place (omega (arith, le, le_here)) lt) many

left_free : (owner : Option ℕ) (slot : ℕ) → owner ≡ None → (if is_slot owner slot then None else owner) ≡ None
left_free owner slot none = rw none refl

stays_free : (owners : ℕ → Option ℕ) (event : Event) (place : ℕ) → owners place ≡ None
    → ((slot places : ℕ) → event ≡ Seat slot (Slots places) → ⊥) → owner_after owners event place ≡ None
stays_free owners (Seat slot (Slots places)) place none isnt = absurd (isnt slot places refl)
stays_free owners (Seat slot terms.Cpu) place none isnt = none
stays_free owners (Seat slot (terms.Prio priority)) place none isnt = none
stays_free owners (Seat slot (terms.Res hard x y)) place none isnt = none
stays_free owners (Seat slot (terms.Weight weight)) place none isnt = none
stays_free owners (Seat slot terms.Turn) place none isnt = none
stays_free owners (Seat slot terms.Sole) place none isnt = none
stays_free owners (Leave slot) place none isnt = left_free (owners place) slot none
stays_free owners Settle place none isnt = none

-- nobody takes a place
pub others_free : (owners after : List (Option ℕ)) (top bound : ℕ) (event : Event) → IsFreeFrom owners top
    → ((slot places : ℕ) → event ≡ Seat slot (Slots places) → ⊥)
    → ((place : ℕ) → place < 1000 → owner_in after place ≡ owner_after (owner_in owners) event place)
    → (bound < 1000 → top ≤ bound) → IsFreeFrom after bound
others_free owners after top bound event free isnt is past = λ place le lt.
    let le_here : top ≤ bound = past (omega (arith, le, lt)) in
    is place lt ∙ stays_free (owner_in owners) event place (free place (omega (arith, le, le_here)) lt) isnt

-- a seating by terms of any kind, where so many places are given to it
pub terms_free : (owners after : List (Option ℕ)) (slot given top bound : ℕ) (terms : Terms)
    → ((places : ℕ) → terms ≡ Slots places → given ≡ places) → IsFreeFrom owners top
    → bound ≡ min (top + given) 4294967295
    → ((place : ℕ) → place < 1000 → owner_in after place ≡ owner_after (owner_in owners) (Seat slot terms) place)
    → IsFreeFrom after bound
terms_free owners after slot given top bound (Slots places) of free its is =
    let same = of places refl in
    seated_free owners after slot places top bound free is (λ early. omega (arith, its, early, same))
terms_free owners after slot given top bound terms.Cpu of free its is =
    others_free owners after top bound (Seat slot terms.Cpu) free (λ other places e. cc) is
    (λ early. omega (arith, its, early))
terms_free owners after slot given top bound (terms.Prio priority) of free its is =
    others_free owners after top bound (Seat slot (terms.Prio priority)) free (λ other places e. cc) is
    (λ early. omega (arith, its, early))
terms_free owners after slot given top bound (terms.Res hard x y) of free its is =
    others_free owners after top bound (Seat slot (terms.Res hard x y)) free (λ other places e. cc) is
    (λ early. omega (arith, its, early))
terms_free owners after slot given top bound (terms.Weight weight) of free its is =
    others_free owners after top bound (Seat slot (terms.Weight weight)) free (λ other places e. cc) is
    (λ early. omega (arith, its, early))
terms_free owners after slot given top bound terms.Turn of free its is =
    others_free owners after top bound (Seat slot terms.Turn) free (λ other places e. cc) is
    (λ early. omega (arith, its, early))
terms_free owners after slot given top bound terms.Sole of free its is =
    others_free owners after top bound (Seat slot terms.Sole) free (λ other places e. cc) is
    (λ early. omega (arith, its, early))
