-- No tick is lost.
use Rattle.std.proofs.Common.{◌≡◌, ℕ, ◌+◌, ◌≤◌, ◌<◌, zero, suc, Some, None, true, Bool, refl, sym, ap, ◌∙◌}
use Rattle.std.proofs.Common.{arith, inl, inr}
use Rattle.std.specs.Prelude.{Option, is_some}
use Rattle.std.specs.Int.{bit_at}
use Rattle.std.proofs.lemmas.Bool.{cases_lt, eq-eqb, ne_eqb, eqb-true}
use Rattle.hls_chron.specs.declared.plain.Sharing.{Sharing}
use Rattle.hls_chron.specs.Kinds.{by_shares}
use Rattle.hls_chron.specs.Ledger.{Ledger, now_of, row_at, before}
use Rattle.hls_chron.specs.Seats.{asked, served, is_slot}
use Rattle.hls_chron.specs.Ticks.{one_if}
use Rattle.hls_chron.proofs.CountLaws.{count-none, count-push}
use Rattle.hls_kinds.specs.Made.{IsMade}
use Rattle.hls_kinds.specs.Slots.{sum_below}
use Rattle.hls_kinds.proofs.Sums.{sum-zero, sum-suc, sum-eq, sum-add}
use Rattle.hls_kinds.proofs.ServingLaws.{serves-slot}
use Rattle.hls_book.proofs.Books.{shares_made}
use Rattle.hls_book.proofs.Follows.{below-at}
use Rattle.hls_book.proofs.PromiseLaws.{row_at-later}
use Rattle.hls_book.specs.ShareBook.{KeepsShareBook}
use Rattle.hls_book.proofs.SharePromises.{fair_asks}
use Rattle.hls_book.specs.Runs.{given_ticks, served_ticks}
use Rattle.hls_book_fairness.specs.Work.{LosesNoTick}

served_by : (b : Ledger) (slot t : ℕ) → served b slot t ≡ is_slot (row_at b t).to slot
unfolding served
served_by b slot t = refl

its_slot : (to : Option ℕ) (slot : ℕ) → is_slot to slot ≡ true → to ≡ Some slot
its_slot None slot is = absurd cc
its_slot (Some at) slot is = ap (λ (n : ℕ). Some n) (eqb-true at slot is)

passed : (b : Ledger) (t slot : ℕ) → (row_at b t).to ≡ Some slot → t < now_of b
passed b t slot to = elim (cases_lt t (now_of b)) [
  | inl lt ↦ lt
  | inr late ↦ absurd (let none = row_at-later b t late in let no : None ≡ Some slot = rw none at to in cc)
]

-- a tick in which one slot below n is served, or none
none_of : (n : ℕ) → sum_below (λ slot. one_if (is_slot None slot)) n ≡ 0
none_of zero = sum-zero (λ slot. one_if (is_slot None slot))
none_of (suc n) = sum-suc (λ slot. one_if (is_slot None slot)) n ∙ rw (none_of n) refl

none_below : (at n : ℕ) → n ≤ at → sum_below (λ slot. one_if (is_slot (Some at) slot)) n ≡ 0
none_below at zero le = sum-zero (λ slot. one_if (is_slot (Some at) slot))
none_below at (suc n) le =
    sum-suc (λ slot. one_if (is_slot (Some at) slot)) n
    ∙ rw (none_below at n (omega (arith, le)), ne_eqb at n (λ same. omega (arith, le, same))) refl

one_below : (at n : ℕ) → at < n → sum_below (λ slot. one_if (is_slot (Some at) slot)) n ≡ 1
one_below at zero lt = absurd (omega (arith, lt))
one_below at (suc n) lt = elim (cases_lt at n) [
  | inl less ↦
      sum-suc (λ slot. one_if (is_slot (Some at) slot)) n
      ∙ rw (one_below at n less, ne_eqb at n (λ same. omega (arith, less, same))) refl
  | inr last ↦
      sum-suc (λ slot. one_if (is_slot (Some at) slot)) n
      ∙ rw (none_below at n last, eq-eqb at n (let same : at ≡ n = omega (arith, last, lt) in same)) refl
]

one_tick : (to : Option ℕ) → ((slot : ℕ) → to ≡ Some slot → slot < 32)
    → sum_below (λ slot. one_if (is_slot to slot)) 32 ≡ one_if (is_some to)
one_tick None within = none_of 32
one_tick (Some at) within = one_below at 32 (within at refl)

module _ (sharing : Sharing) (b : Ledger) (made : IsMade (by_shares sharing) b) where
  book : KeepsShareBook sharing b
  book = shares_made sharing b made

  serves : (slot t : ℕ) → served b slot t ≡ true → asked b slot t ≡ true
  unfolding asked
  serves slot t is =
      let to = its_slot (row_at b t).to slot (sym (served_by b slot t) ∙ is) in
      eq-eqb (bit_at (row_at b t).mask slot) 1
      (serves-slot (by_shares sharing) (before t b) (row_at b t).mask slot
      (book.served t slot (passed b t slot to) to))

  within : (t slot : ℕ) → (row_at b t).to ≡ Some slot → slot < 32
  within t slot to =
      below-at sharing b book t slot (passed b t slot to)
      (serves slot t (served_by b slot t ∙ ap (λ o. is_slot o slot) to ∙ eq-eqb slot slot refl))

  shares : (i n : ℕ) → sum_below (λ slot. served_ticks b slot i n) 32 ≡ given_ticks b i n
  shares i zero =
      sum-eq (λ slot. served_ticks b slot i 0) (λ slot. one_if (is_slot None slot)) 32
      (λ slot lt. count-none (served b slot) i)
      ∙ none_of 32 ∙ sym (count-none (λ t. is_some (row_at b t).to) i)
  shares i (suc n) =
      sum-eq (λ slot. served_ticks b slot i (suc n))
      (λ slot. served_ticks b slot i n + one_if (is_slot (row_at b (i + n)).to slot)) 32
      (λ slot lt. count-push (served b slot) i n
      ∙ ap (λ (is : Bool). served_ticks b slot i n + one_if is) (served_by b slot (i + n)))
      ∙ sum-add (λ slot. served_ticks b slot i n) (λ slot. one_if (is_slot (row_at b (i + n)).to slot)) 32
      ∙ rw (shares i n, one_tick (row_at b (i + n)).to (within (i + n)))
      (sym (count-push (λ t. is_some (row_at b t).to) i n))

  pub loses_none : LosesNoTick sharing b
  loses_none = record {
    asks = λ slot t is. fair_asks sharing b book slot t is;
    serves = serves;
    shares = λ i n le. shares i n;
  }
