-- Service without budget takes no tick from a budget.
use Rattle.std.proofs.Common.{◌≡◌, ℕ, ◌<◌, refl, sym, ◌∙◌, arith, true, false, Some, None, inl, inr}
use Rattle.std.specs.Prelude.{nat_lt}
use Rattle.std.specs.Int.{bit_at}
use Rattle.std.proofs.lemmas.Bool.{cases_Bool, cases_lt, eqb-true, lt-ltb}
use Rattle.hls_chron.specs.declared.plain.Config.TheVariants.{Edf}
use Rattle.hls_chron.specs.Ledger.{Ledger, now_of, row_at, before}
use Rattle.hls_chron.specs.Seats.{SlotAsks, asked, served, terms_at}
use Rattle.hls_kinds.specs.Asks.{slot_asks, asks_in_budget}
use Rattle.hls_kinds.specs.Discipline.{Serves}
use Rattle.hls_kinds.specs.Made.{IsMade}
use Rattle.hls_kinds.specs.Reservations.{budget_at}
use Rattle.hls_kinds.specs.Slots.{any_below}
use Rattle.hls_kinds.proofs.SlotLaws.{any_below-none}
use Rattle.hls_book.proofs.Choices.{and_right, and_both, above_zero}
use Rattle.hls_book.proofs.Rows.{is-slot}
use Rattle.hls_book.proofs.Books.{admission_made, discipline_made}
use Rattle.hls_book_isolation.specs.Claims.{SparesBudgets}

-- whoever is served without budget finds none below 32 that asks with budget
none_asks : (b : Ledger) (mask slot : ℕ) → Serves Edf b mask slot → budget_at b mask slot ≡ 0
    → any_below (asks_in_budget b mask) 32 ≡ false
none_asks b mask slot serves empty = elim (cases_Bool (any_below (asks_in_budget b mask) 32)) [
  | inl some ↦
      let has = above_zero (budget_at b mask slot) (and_right (slot_asks mask slot) (nat_lt 0 (budget_at b mask slot))
      (rw some at serves.chosen)) in
      absurd (omega (arith, has, empty))
  | inr none ↦ none
]

without : (b : Ledger) (mask other : ℕ) → ¬ (asks_in_budget b mask other ≡ true) → slot_asks mask other ≡ true
    → budget_at b mask other ≡ 0
without b mask other off on = elim (cases_lt 0 (budget_at b mask other)) [
  | inl has ↦
      absurd (off (and_both (slot_asks mask other) (nat_lt 0 (budget_at b mask other)) on
      (lt-ltb 0 (budget_at b mask other) has)))
  | inr none ↦ omega (arith, none)
]

asked_slot : (b : Ledger) (slot t : ℕ) → asked b slot t ≡ slot_asks (row_at b t).mask slot
unfolding asked
asked_slot b slot t = refl

served_slot : (b : Ledger) (slot t : ℕ) → served b slot t ≡ true → (row_at b t).to ≡ Some slot
unfolding served
served_slot b slot t is = is-slot (row_at b t).to slot is

module _ (b : Ledger) (made : IsMade Edf b) where
  within : (t slot : ℕ) → t < now_of b → SlotAsks (row_at b t).mask slot → slot < 32
  within t slot lt on =
      let admission = admission_made Edf b made in
      elim (terms_at (before t b) slot) as (λ terms. terms_at (before t b) slot ≡ terms → slot < 32) [
        | None ↦ λ none. absurd (admission.seated t slot lt on none)
        | Some terms ↦ λ is. (admission.had t lt).within slot terms is
      ] refl

  pub spares_budgets : SparesBudgets b
  spares_budgets t slot other lt goes empty asks =
      let to = served_slot b slot t goes in
      let serves = (discipline_made Edf b made).served t slot lt to in
      let none = none_asks (before t b) (row_at b t).mask slot serves empty in
      let on : slot_asks (row_at b t).mask other ≡ true = sym (asked_slot b other t) ∙ asks in
      let below = within t other lt (eqb-true (bit_at (row_at b t).mask other) 1 on) in
      without (before t b) (row_at b t).mask other
      (any_below-none (asks_in_budget (before t b) (row_at b t).mask) 32 other none below) on
