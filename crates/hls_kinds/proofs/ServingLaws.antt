-- A scheduler that has a slot to serve asks, and so does the slot.
use Rattle.std.proofs.Common.{◌≡◌, ℕ, ◌||◌, ◌&&◌, Bool, true, false, refl, sym, subst, inl, inr, cond}
use Rattle.std.proofs.lemmas.Bool.{cases_eq, cases_Bool, eq-eqb, ne_eqb, eqb-true}
use Rattle.std.proofs.lemmas.Nat.Bits.{bit_at-zero}
use Rattle.hls_chron.specs.declared.plain.Config.{Config}
use Rattle.hls_chron.specs.Ledger.{Ledger}
use Rattle.hls_chron.specs.Seats.{SlotAsks}
use Rattle.hls_chron.proofs.ConfigLaws.{by_kind}
use Rattle.hls_kinds.specs.Slots.{any_below}
use Rattle.hls_kinds.specs.Turns.{turn_slot, turn_goes_on}
use Rattle.hls_kinds.specs.Asks.{asks, some_slot_asks, slot_asks, asks_in_budget, asks_softly}
use Rattle.hls_kinds.specs.Discipline.{Serves, TakesTurn, may_go}
use Rattle.hls_kinds.proofs.SlotLaws.{any_below-at}

some_asks : (mask slot : ℕ) → SlotAsks mask slot → some_slot_asks mask ≡ true
some_asks mask slot asks = elim (cases_eq mask 0) [
  | inl none ↦ absurd (let zero = bit_at-zero slot in let no : SlotAsks 0 slot = rw none at asks in cc)
  | inr some ↦ rw (ne_eqb mask 0 some) refl
]

some_tested : (mask slot : ℕ) → slot_asks mask slot ≡ true → some_slot_asks mask ≡ true
some_tested mask slot asks = some_asks mask slot (eqb-true _ 1 asks)

or_left : (a b : Bool) → a ≡ true → (a || b) ≡ true
or_left a b e = rw e refl

or_right : (a b : Bool) → b ≡ true → (a || b) ≡ true
or_right true b e = refl
or_right false b e = e

may_ask : (b : Ledger) (mask slot : ℕ) → may_go b mask slot ≡ true
    → (asks_in_budget b mask slot || asks_softly b mask slot) ≡ true
may_ask b mask slot go =
    elim (any_below (asks_in_budget b mask) 32) as (λ x. cond x (asks_in_budget b mask slot)
    (asks_softly b mask slot) ≡ true → (asks_in_budget b mask slot || asks_softly b mask slot) ≡ true) [
      | true ↦ λ e. or_left (asks_in_budget b mask slot) (asks_softly b mask slot) e
      | false ↦ λ e. or_right (asks_in_budget b mask slot) (asks_softly b mask slot) e
    ] go

and_left : (a b : Bool) → (a && b) ≡ true → a ≡ true
and_left true b e = refl
and_left false b e = e

turn_asks : (quantum : ℕ) (b : Ledger) (key : ℕ → ℕ) (mask slot : ℕ) → TakesTurn quantum b key mask slot
    → some_slot_asks mask ≡ true
turn_asks quantum b key mask slot turn = elim (cases_Bool (turn_goes_on quantum b mask)) [
  | inl on ↦ some_tested mask (turn_slot b) (and_left (slot_asks mask (turn_slot b)) _ on)
  | inr off ↦ some_tested mask slot (turn.passes off).chosen
]

pub serves-asks : (config : Config) (b : Ledger) (mask slot : ℕ) → Serves config b mask slot
    → asks config b mask ≡ true
serves-asks config b mask slot =
    by_kind (λ config. Serves config b mask slot → asks config b mask ≡ true) (λ serves. absurd serves)
    (λ serves. some_asks mask slot serves.asks)
    (λ serves. any_below-at (λ slot. asks_in_budget b mask slot || asks_softly b mask slot) 32 slot serves.within
    (may_ask b mask slot serves.chosen))
    (λ sharing. turn_asks sharing.quantum b _ mask slot)
    (λ quantum. turn_asks quantum b _ mask slot)
    (λ frame serves. rw serves.owns (eq-eqb _ 1 serves.asks))
    (λ ports serves. some_asks mask slot serves.asks) config

pub may_go_asks : (b : Ledger) (mask slot : ℕ) → may_go b mask slot ≡ true → slot_asks mask slot ≡ true
may_go_asks b mask slot go =
    elim (any_below (asks_in_budget b mask) 32) as (λ x. cond x (asks_in_budget b mask slot)
    (asks_softly b mask slot) ≡ true → slot_asks mask slot ≡ true) [
      | true ↦ λ e. and_left (slot_asks mask slot) _ e
      | false ↦ λ e. and_left (slot_asks mask slot) _ e
    ] go

turn_asks_slot : (quantum : ℕ) (b : Ledger) (key : ℕ → ℕ) (mask slot : ℕ) → TakesTurn quantum b key mask slot
    → SlotAsks mask slot
turn_asks_slot quantum b key mask slot turn = elim (cases_Bool (turn_goes_on quantum b mask)) [
  | inl on ↦ let at : SlotAsks mask (turn_slot b) = eqb-true _ 1 (and_left (slot_asks mask (turn_slot b)) _ on) in
      let P : ℕ → Type 0 = λ n. SlotAsks mask n in subst P (sym (turn.goes_on on)) at
  | inr off ↦ eqb-true _ 1 (turn.passes off).chosen
]

pub serves-slot : (config : Config) (b : Ledger) (mask slot : ℕ) → Serves config b mask slot
    → SlotAsks mask slot
serves-slot config b mask slot =
    by_kind (λ config. Serves config b mask slot → SlotAsks mask slot) (λ serves. absurd serves) (λ serves. serves.asks)
    (λ serves. eqb-true _ 1 (may_go_asks b mask slot serves.chosen))
    (λ sharing. turn_asks_slot sharing.quantum b _ mask slot)
    (λ quantum. turn_asks_slot quantum b _ mask slot) (λ frame serves. serves.asks) (λ ports serves. serves.asks) config
