-- The bits of a mask where one slot begins or ceases to ask.
use Rattle.std.proofs.Common.{◌≡◌, ◌≢◌, ℕ, ◌<◌, true, false, sym, ◌∙◌, inl, inr}
use Rattle.std.specs.Int.{bit_at}
use Rattle.std.proofs.lemmas.Bool.{cases_Bool, eqb-true, eqb-false, eq-eqb}
use Rattle.hls_kinds.specs.Asks.{slot_asks, with_slot, without_slot}
use Rattle.hls_sched.proofs.Masks.{asks_with, asks_with_same, still_asks_with}
use Rattle.hls_sched.proofs.Masks.{asks_without, silent_without, still_asks_without, silent_zero}

pub kept_bit : (mask slot k : ℕ) → slot < 32 → k < 32 → k ≢ slot
    → slot_asks (without_slot slot mask) k ≡ slot_asks mask k
kept_bit mask slot k lt within other =
    let later = without_slot slot mask in
    elim (cases_Bool (slot_asks mask k)) [
      | inl on ↦
          eq-eqb (bit_at later k) 1
          (still_asks_without mask slot k lt within other (eqb-true (bit_at mask k) 1 on)) ∙ sym on
      | inr off ↦ elim (cases_Bool (slot_asks later k)) [
        | inl on ↦
            absurd (eqb-false (bit_at mask k) 1 off (asks_without mask slot k (eqb-true (bit_at later k) 1 on)))
        | inr none ↦ none ∙ sym off
      ]
    ]

pub gone_bit : (mask slot : ℕ) → slot < 32 → slot_asks (without_slot slot mask) slot ≡ false
gone_bit mask slot lt = elim (cases_Bool (slot_asks (without_slot slot mask) slot)) [
  | inl on ↦ absurd (silent_without mask slot lt (eqb-true (bit_at (without_slot slot mask) slot) 1 on))
  | inr off ↦ off
]

pub set_bit : (mask slot : ℕ) → slot_asks (with_slot slot mask) slot ≡ true
set_bit mask slot = eq-eqb (bit_at (with_slot slot mask) slot) 1 (asks_with_same mask slot)

pub same_bit : (mask slot k : ℕ) → k ≢ slot → slot_asks (with_slot slot mask) k ≡ slot_asks mask k
same_bit mask slot k other =
    let later = with_slot slot mask in
    elim (cases_Bool (slot_asks mask k)) [
      | inl on ↦
          eq-eqb (bit_at later k) 1 (still_asks_with mask slot k (eqb-true (bit_at mask k) 1 on)) ∙ sym on
      | inr off ↦ elim (cases_Bool (slot_asks later k)) [
        | inl on ↦
            absurd (eqb-false (bit_at mask k) 1 off (asks_with mask slot k (eqb-true (bit_at later k) 1 on) other))
        | inr none ↦ none ∙ sym off
      ]
    ]

at_slot : (mask slot k : ℕ) → k ≡ slot → slot_asks (with_slot slot mask) k ≡ true
at_slot mask slot k is = rw is (set_bit mask slot)

-- a slot that is silent with another is not that one
pub other_slot : (mask slot k : ℕ) → slot_asks (with_slot slot mask) k ≡ false → k ≢ slot
other_slot mask slot k off = λ is. let both = sym off ∙ at_slot mask slot k is in cc

pub none_asks : (slot : ℕ) → slot_asks 0 slot ≡ false
none_asks slot = elim (cases_Bool (slot_asks 0 slot)) [
  | inl on ↦ absurd (silent_zero slot (eqb-true (bit_at 0 slot) 1 on))
  | inr off ↦ off
]
