-- A scheduler that has a free slot has a least one.
use Rattle.std.proofs.Common.{◌≡◌, ◌≢◌, ℕ, zero, suc, ◌<◌, Option, Some, None, arith}
use Rattle.std.proofs.Common.{◌⊎◌, inl, inr, refl, subst, sym}
use Rattle.std.proofs.lemmas.Bool.{cases_lt, cases_eq}
use Rattle.hls_chron.specs.declared.plain.Config.{Config}
use Rattle.hls_chron.specs.declared.plain.Terms.{Terms}
use Rattle.hls_chron.specs.Ledger.{Ledger}
use Rattle.hls_chron.specs.Seats.{most_seats}
use Rattle.hls_kinds.specs.Room.{occupant_at, IsFree, IsFull}

-- of the first slots, all are taken up, or there is a least one that is free
pub data Vacancy (config : Config) (b : Ledger) (n : ℕ) : Type 0 where
  Taken : (all : (slot : ℕ) → slot < n → occupant_at config b slot ≢ None) → Vacancy config b n
  First : (slot : ℕ) (within : slot < n) (free : occupant_at config b slot ≡ None)
      (least : (other : ℕ) → other < slot → occupant_at config b other ≢ None) → Vacancy config b n

is_none : (some : Option Terms) → (some ≡ None) ⊎ (some ≢ None)
is_none None = inl refl
is_none (Some terms) = inr (λ e. cc)

vacancy : (config : Config) (b : Ledger) (n : ℕ) → Vacancy config b n
vacancy config b zero = Taken (λ slot lt. absurd (omega (arith, lt)))
vacancy config b (suc n) = elim (vacancy config b n) [
  | First slot within free least ↦ First slot (omega (arith, within)) free least
  | Taken all ↦ elim (is_none (occupant_at config b n)) [
    | inl free ↦ First n (omega arith) free all
    | inr some ↦ Taken (λ slot lt. elim (cases_eq slot n) [
      | inl here ↦ subst (λ (k : ℕ). occupant_at config b k ≢ None) (sym here) some
      | inr off ↦ all slot (omega (arith, lt, off))
    ])
  ]
]

pub free_or_full : (config : Config) (b : Ledger) → ¬ IsFull config b → (slot : ℕ) × IsFree config b slot
free_or_full config b room = elim (vacancy config b (most_seats config)) [
  | Taken all ↦ absurd (room all)
  | First slot within free least ↦ (slot, record { within = within; free = free; least = least })
]

pub free_one : (config : Config) (b : Ledger) (slot other : ℕ) → IsFree config b slot → IsFree config b other
    → slot ≡ other
free_one config b slot other one two = elim (cases_eq slot other) [
  | inl same ↦ same
  | inr off ↦ elim (cases_lt slot other) [
    | inl lt ↦ absurd (two.least slot lt one.free)
    | inr le ↦ absurd (one.least other (omega (arith, le, off)) two.free)
  ]
]
