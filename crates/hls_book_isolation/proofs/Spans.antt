-- What a seat is served in a span of ticks.
use Rattle.std.proofs.Common.{◌≡◌, ℕ, ◌+◌, ◌*◌, ◌-◌, ◌<◌, ◌≤◌, ap, ◌∙◌, arith, Bool, true, inl, inr}
use Rattle.std.proofs.Math.Nat.{mul-le-mul_left, mul-le-mul_right}
use Rattle.std.proofs.lemmas.Bool.{cases_lt}
use Rattle.hls_chron.specs.declared.plain.Terms.TheVariants.{Res}
use Rattle.hls_chron.specs.Ledger.{Ledger, now_of}
use Rattle.hls_chron.specs.Parts.{all_parts, parts}
use Rattle.hls_chron.specs.Seats.{asked, served}
use Rattle.hls_chron.specs.Ticks.{count}
use Rattle.hls_chron.proofs.CountLaws.{count-le}
use Rattle.hls_chron.proofs.PartLaws.{parts-rate, parts-near}
use Rattle.hls_kinds.specs.declared.reservations.Reservation.{Reservation}
use Rattle.hls_kinds.specs.declared.tenant.Tenant.TheVariants.{Sits}
use Rattle.hls_kinds.specs.Tenants.{tenant_at}
use Rattle.hls_book.specs.Books.{KeepsReservations, IsGiven}
use Rattle.hls_book.proofs.Each.{seat_is}
use Rattle.hls_book.proofs.Pieces.{run_satisfies}
use Rattle.hls_book.proofs.ServerPromises.{cap-kept}
use Rattle.hls_book_isolation.proofs.Sharp.{sharp_cap}
use Rattle.hls_book_isolation.specs.Isolation.{IsCapped, HasBudgets}

-- a few ticks are less than what the bound gives at once
few_ticks : (x y n got : ℕ) → got ≤ n → got ≤ 2 * x → x ≤ y → got * y + 2 * x * x ≤ x * n + 2 * x * y
few_ticks x y n got some few narrow =
    let gap : y ≡ x + (y - x) = omega (arith, narrow) in
    let over : got * (y - x) ≤ 2 * x * (y - x) = mul-le-mul_right (y - x) few in
    let time : x * got ≤ x * n = mul-le-mul_left x some in
    let mine : got * y ≡ x * got + got * (y - x) = ap (λ n. got * n) gap ∙ omega arith in
    let most : 2 * x * y ≡ 2 * x * x + 2 * x * (y - x) = ap (λ n. 2 * x * n) gap ∙ omega arith in
    omega (arith, over, time, mine, most)

-- from parts to ticks: the parts of a period are less than a tick's more than x ticks
whole_ticks : (U x y rate n got : ℕ) → 0 < y → x * U ≤ rate * y → rate * y + 1 ≤ x * U + y
    → got * U + rate * (2 * x) ≤ x * U + rate * (y + n) → y * (y + n) ≤ U → got * y + 2 * x * x ≤ x * n + 2 * x * y
whole_ticks U x y rate n got wide paid near limit short =
    elim (cases_lt (x * n + 2 * x * y) (got * y + 2 * x * x)) [
      | inl over ↦
          let more : (x * n + 2 * x * y + 1) * U ≤ (got * y + 2 * x * x) * U =
          mul-le-mul_right U (omega (arith, over)) in
          let most : y * (got * U + rate * (2 * x)) ≤ y * (x * U + rate * (y + n)) = mul-le-mul_left y limit in
          let least : 2 * x * (x * U) ≤ 2 * x * (rate * y) = mul-le-mul_left (2 * x) paid in
          let rates : (y + n) * (rate * y + 1) ≤ (y + n) * (x * U + y) = mul-le-mul_left (y + n) near in
          let more_is : (x * n + 2 * x * y + 1) * U ≡ x * n * U + 2 * x * y * U + U = omega arith in
          let got_is : (got * y + 2 * x * x) * U ≡ got * y * U + 2 * x * (x * U) = omega arith in
          let most_is : y * (got * U + rate * (2 * x)) ≡ got * y * U + 2 * x * (rate * y) = omega arith in
          let all_is : y * (x * U + rate * (y + n)) ≡ x * y * U + (y + n) * (rate * y) = omega arith in
          let rate_is : (y + n) * (rate * y + 1) ≡ (y + n) * (rate * y) + (y + n) = omega arith in
          let share_is : (y + n) * (x * U + y) ≡ x * y * U + x * n * U + y * (y + n) = omega arith in
          let twice : 2 * x * y * U ≡ x * y * U + x * y * U = omega arith in
          let long : U + (y + n) ≤ y * (y + n) =
          omega (arith, more, most, least, rates, more_is, got_is, most_is, all_is, rate_is, share_is, twice) in
          absurd (omega (arith, long, short, wide))
      | inr fits ↦ fits
    ]

-- twice the budget, and the share of what is beyond twice as many ticks
beyond_twice : (x y n got : ℕ) → got ≤ n → got * y + 2 * x * x ≤ x * n + 2 * x * y
    → got * y ≤ 2 * x * y + x * (n - 2 * x)
beyond_twice x y n got some all = elim (cases_lt n (2 * x)) [
  | inl less ↦
      let few : got * y ≤ 2 * x * y = mul-le-mul_right y (omega (arith, some, less)) in omega (arith, few)
  | inr more ↦
      let split : x * n ≡ x * (n - 2 * x) + x * (2 * x) = (
      let e : n ≡ n - 2 * x + 2 * x = omega (arith, more) in ap (λ m. x * m) e ∙ omega arith) in
      let same : x * (2 * x) ≡ 2 * x * x = omega arith in
      omega (arith, all, split, same)
]

module _ (b : Ledger) (slot x y since : ℕ) (keeps : KeepsReservations b) where
  abbrev r : Reservation
  r = record { x = x; y = y; since = since }

  pub is_capped : tenant_at b slot ≡ Sits (Res true x y) since → IsCapped b slot x y since
  is_capped sits =
      let seat = seat_is b slot r true keeps.tenants sits in
      let wide : 0 < y = omega (arith, seat.0.0, seat.0.1) in
      record {
        in_parts = cap-kept b slot r keeps sits;
        in_ticks = λ i n from to short.
            let at : since + (i - since) ≡ i = omega (arith, from) in
            let some = count-le (served b slot) i n in
            let fits = sharp_cap r (asked b slot) (served b slot) (now_of b) seat.0.0 seat.0.1
            (λ t before. keeps.sure slot t before) (keeps.hard slot r sits) (i - since) n (omega (arith, at, to)) in
            let limit = rw at at fits in
            beyond_twice x y n (count (served b slot) i n) some (elim limit [
              | inl few ↦ few_ticks x y n (count (served b slot) i n) some (omega (arith, few)) seat.0.1
              | inr more ↦ whole_ticks all_parts x y (parts x y) n (count (served b slot) i n) wide
                  (parts-rate x y wide) (parts-near x y wide) more short
            ]);
      }

  pub has_budgets : (hard : Bool) → IsGiven b → tenant_at b slot ≡ Sits (Res hard x y) since
      → HasBudgets b slot hard x y since
  has_budgets hard given sits =
      let seat = seat_is b slot r hard keeps.tenants sits in
      λ i j from to on.
      run_satisfies r hard (asked b slot) (served b slot) (now_of b) i j seat.0.0 seat.0.1 from to on
      (keeps.each given slot hard r sits) (λ is. keeps.hard slot r (rw is at sits))
