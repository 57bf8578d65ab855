-- From the first of a ranking to the slot that a scheduler is to serve.
use Rattle.std.proofs.Common.{◌≡◌, ℕ, ◌<◌, ◌^◌, Bool, true, false, arith, refl, sym, ap, inl, inr}
use Rattle.std.proofs.Common.{◌∙◌}
use Rattle.std.specs.Prelude.{◌≢◌, Option, Some, None, is_some, IfSome, ◌&&◌, ◌||◌}
use Rattle.std.specs.Int.{bit_at}
use Rattle.std.proofs.lemmas.Bool.{cases_lt, eqb-true, eq-eqb}
use Rattle.std.proofs.lemmas.Nat.Bits.{bit_at_above}
use Rattle.hls_kinds_lookup.specs.declared.choice.Ranking.TheVariants.{Priority}
use Rattle.hls_chron.specs.Ledger.{Ledger}
use Rattle.hls_chron.specs.Seats.{SlotAsks, priority_at}
use Rattle.hls_kinds.specs.Slots.{any_below, IsFirst}
use Rattle.hls_kinds.specs.Asks.{slot_asks, asks_in_budget, asks_softly}
use Rattle.hls_kinds.specs.Reservations.{deadline_at}
use Rattle.hls_kinds.specs.Discipline.{HasLeastPriority, may_go}
use Rattle.hls_kinds_lookup.specs.Rankings.{takes_part, key_of, number_or}
use Rattle.hls_kinds.proofs.SlotLaws.{any_below-none, any_below-or}

pub then_some : (r : Option ℕ) (P Q : ℕ → Type 0) → IfSome r P → ((slot : ℕ) → P slot → Q slot) → IfSome r Q
then_some None P Q has gives = has
then_some (Some slot) P Q has gives = gives slot has

and_left : (a b : Bool) → (a && b) ≡ true → a ≡ true
and_left true b is = refl
and_left false b is = absurd (let h = is in cc)

and_right : (a b : Bool) → (a && b) ≡ true → b ≡ true
and_right true b is = is
and_right false b is = absurd (let h = is in cc)

and_both : (a b : Bool) → a ≡ true → b ≡ true → (a && b) ≡ true
and_both a b is_a is_b = rw (is_a, is_b) refl

some_is : (o : Option ℕ) → is_some o ≡ true → o ≢ None
some_is o is none = let h = rw none at is in cc

is_some_if : (o : Option ℕ) → o ≢ None → is_some o ≡ true
is_some_if None lacks = absurd (lacks refl)
is_some_if (Some n) lacks = refl

-- only slots of a mask ask
pub asks_within : (mask slot : ℕ) → mask < 2 ^ 32 → SlotAsks mask slot → slot < 32
asks_within mask slot fits asks = elim (cases_lt slot 32) [
  | inl lt ↦ lt
  | inr ge ↦ absurd (let none = bit_at_above mask 32 slot fits ge in omega (arith, none, asks))
]

takes_in_part : (b : Ledger) (mask slot : ℕ) → SlotAsks mask slot → priority_at b slot ≢ None
    → takes_part Priority b mask slot ≡ true
takes_in_part b mask slot asks seated =
    and_both (slot_asks mask slot) (is_some (priority_at b slot)) (eq-eqb (bit_at mask slot) 1 asks)
    (is_some_if (priority_at b slot) seated)

some_none : (o : Option ℕ) (n : ℕ) → o ≡ Some n → o ≢ None
some_none o n is none = let h = sym is ∙ none in cc

pub fp-serves : (b : Ledger) (mask slot : ℕ) → mask < 2 ^ 32
    → IsFirst 32 (takes_part Priority b mask) (key_of Priority b mask) slot → HasLeastPriority b mask slot
fp-serves b mask slot fits is = record {
  asks = eqb-true (bit_at mask slot) 1
      (and_left (slot_asks mask slot) (is_some (priority_at b slot)) is.chosen);
  seated = some_is (priority_at b slot) (and_right (slot_asks mask slot) (is_some
      (priority_at b slot)) is.chosen);
  least = λ other priority rival asks own its.
      let part = takes_in_part b mask other asks (some_none (priority_at b other) rival its) in
      let le = is.least other (asks_within mask other fits asks) part in
      omega (arith, le, ap number_or own, ap number_or its);
}

pub fp-none : (b : Ledger) (mask slot : ℕ) → mask < 2 ^ 32 → any_below (takes_part Priority b mask) 32 ≡ false
    → HasLeastPriority b mask slot → ⊥
fp-none b mask slot fits none is =
    any_below-none (takes_part Priority b mask) 32 slot none (asks_within mask slot fits is.asks)
    (takes_in_part b mask slot is.asks is.seated)

pub edf-none : (b : Ledger) (mask slot : ℕ) → any_below (asks_in_budget b mask) 32 ≡ false
    → any_below (asks_softly b mask) 32 ≡ false → IsFirst 32 (may_go b mask) (deadline_at b mask) slot → ⊥
edf-none b mask slot urgent soft is =
    let chosen : asks_softly b mask slot ≡ true = rw urgent at is.chosen in
    any_below-none (asks_softly b mask) 32 slot soft is.within chosen

pub asks-first : (f g : ℕ → Bool) (r : Bool) → r ≡ true → r ≡ any_below f 32
    → r ≡ any_below (λ s. f s || g s) 32
asks-first f g r is some = rw (any_below-or f g 32, ← some, is) refl

pub asks-second : (f g : ℕ → Bool) (r s : Bool) → r ≡ false → r ≡ any_below f 32 → s ≡ any_below g 32
    → s ≡ any_below (λ s. f s || g s) 32
asks-second f g r s is none some = rw (any_below-or f g 32, ← none, is) some
