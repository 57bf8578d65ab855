-- When a seat has had its ticks.
use Rattle.std.proofs.Common.{◌≡◌, ℕ, ◌+◌, ◌*◌, ◌-◌, ◌<◌, ◌≤◌, zero, suc, Bool, refl, sym, arith, ap, ◌∙◌, true}
use Rattle.std.proofs.Common.{add-one, inl, inr}
use Rattle.std.specs.Prelude.{◌/◌, is_some}
use Rattle.std.proofs.Math.Nat.{mul-le-mul_left, mul-add}
use Rattle.std.proofs.lemmas.Bool.{cases_lt}
use Rattle.hls_chron.specs.declared.plain.Sharing.{Sharing}
use Rattle.hls_chron.specs.declared.plain.Terms.TheVariants.{Weight}
use Rattle.hls_chron.specs.Kinds.{by_shares}
use Rattle.hls_chron.specs.Ledger.{Ledger, now_of, row_at}
use Rattle.hls_chron.specs.Seats.{asked, served}
use Rattle.hls_chron.specs.Ticks.{count}
use Rattle.hls_chron.proofs.CountLaws.{count-none, count-push}
use Rattle.hls_kinds.specs.Made.{IsMade}
use Rattle.hls_kinds.specs.Shares.{AsksThroughout}
use Rattle.hls_kinds.specs.Tags.{share_in}
use Rattle.hls_kinds.proofs.MarkLaws.{sits_on}
use Rattle.hls_kinds.proofs.Sums.{sum-at}
use Rattle.hls_book.proofs.Books.{shares_made}
use Rattle.hls_book.specs.ShareBook.{KeepsShareBook}
use Rattle.hls_book.proofs.Follows.{to_of, some_quantum}
use Rattle.hls_book.proofs.SharePromises.{fair_asks}
use Rattle.hls_book.proofs.Rooms.{weights-at, slot-at, fits-at}
use Rattle.hls_book.proofs.Nexts.{share_at}
use Rattle.hls_book.proofs.ShareRuns.{has-share}
use Rattle.hls_book.proofs.Windows.{given_in, served_in}
use Rattle.hls_book.specs.Runs.{given_ticks, served_ticks}
use Rattle.hls_book_fairness.specs.Delays.{IsLevel, IsGivenThroughout, KeepsDelays}
use Rattle.hls_book_fairness.proofs.Level.{level_share}

-- where each tick counts
count-all : (test : ℕ → Bool) (i n : ℕ) → ((t : ℕ) → i ≤ t → t < i + n → test t ≡ true) → count test i n ≡ n
count-all test i zero all = count-none test i
count-all test i (suc n) all =
    count-push test i n
    ∙ rw (count-all test i n (λ t ge less. all t ge (omega (arith, less))), all (i + n) (omega arith) (omega arith))
    (add-one n)

-- n / w, rounded down, times w
rounded : (n w : ℕ) → 0 < w → n < w * (n / w) + w
rounded n w some = omega arith

-- a share of T, with an error of r ticks of weight w, of a quantum of the rest, and of what is less than a tick
in_time : (w T Q r N G ticks q : ℕ) → 0 < w → 0 < Q → w * G ≤ T * N + (T - w) * Q + w * r
    → T * (ticks + (Q - 1)) < w * q + w → w ≤ T → q + r - (Q - 1) ≤ G → ticks ≤ N
in_time w T Q r N G ticks q some pos share part less had = elim (cases_lt N ticks) [
  | inl few ↦
      let tick : T * (N + 1) ≤ T * ticks = mul-le-mul_left T (omega (arith, few)) in
      let all : w * (q + r) ≤ w * (G + (Q - 1)) = mul-le-mul_left w (omega (arith, had)) in
      let whole : T ≡ w + (T - w) = omega (arith, less) in
      let quantum : Q ≡ (Q - 1) + 1 = omega (arith, pos) in
      let rest : T * Q ≡ w * Q + (T - w) * Q = ap (λ n. n * Q) whole ∙ omega arith in
      let own : w * Q ≡ w * (Q - 1) + w = ap (λ n. w * n) quantum ∙ mul-add w (Q - 1) 1 ∙ omega arith in
      let one : T * Q ≡ T * (Q - 1) + T = ap (λ n. T * n) quantum ∙ mul-add T (Q - 1) 1 ∙ omega arith in
      absurd (omega (
        arith,
        share,
        part,
        tick,
        all,
        rest,
        own,
        one,
        mul-add w q r,
        mul-add w G (Q - 1),
        mul-add T N 1,
        mul-add T ticks (Q - 1),
      ))
  | inr enough ↦ enough
]

level_in_time : (w T r N G ticks q : ℕ) → 0 < w → w * G ≤ T * N + w * r → T * (ticks - 1) < w * q + w → q + (r + 1) ≤ G
    → ticks ≤ N
level_in_time w T r N G ticks q some share part had = elim (cases_lt N ticks) [
  | inl few ↦
      let tick : T * N ≤ T * (ticks - 1) = mul-le-mul_left T (omega (arith, few)) in
      let all : w * (q + (r + 1)) ≤ w * G = mul-le-mul_left w had in
      let split : w * (q + (r + 1)) ≡ w * q + (w * r + w) = mul-add w q (r + 1) ∙ ap (λ n. w * q + n) (mul-add w r 1
      ∙ omega arith) in
      absurd (omega (arith, share, part, tick, all, split))
  | inr enough ↦ enough
]

module _ (sharing : Sharing) (b : Ledger) (made : IsMade (by_shares sharing) b) where
  abbrev T : ℕ
  T = sharing.total

  abbrev M : ℕ
  M = sharing.most

  abbrev Q : ℕ
  Q = sharing.quantum

  book : KeepsShareBook sharing b
  book = shares_made sharing b made

  served_same : (slot from n : ℕ) → count (served b slot) from n ≡ served_in (to_of b) slot from n
  unfolding served
  served_same slot from n = refl

  module _ (i n slot weight ticks : ℕ) (lt : i + n < now_of b) (on : AsksThroughout b slot weight i n) where
    le : i + suc n ≤ now_of b
    le = omega (arith, lt)

    asks : (t : ℕ) → i ≤ t → t < i + suc n → asked b slot t ≡ true
    asks t ge before = on.asks t ge (omega (arith, before))

    some : 0 < weight
    some =
        let range = (weights-at sharing b book (i + n) (omega (arith, lt))).ranged slot weight
        (sits_on _ slot on.since (Weight weight) on.sits) in
        omega (arith, range.0)

    fits : weight ≤ T
    fits =
        let here : (share_at b (i + n) slot).weight ≡ weight = ap (λ tenant. (share_in tenant).weight) on.sits in
        let below = slot-at sharing b book (i + n) slot (omega (arith, lt)) (omega (arith, here, some)) in
        let one = sum-at (λ k. (share_at b (i + n) k).weight) 32 slot (omega (arith, below, book.range.1.1)) in
        let all = fits-at sharing b book (i + n) (omega (arith, lt)) in
        omega (arith, one, all, here)

    served_more : served_in (to_of b) slot i (suc n) ≡ served_ticks b slot i (n + 1)
    served_more = sym (served_same slot i (suc n)) ∙ ap (count (served b slot) i) (sym (add-one n))

    given_more : given_in (to_of b) i (suc n) ≡ given_ticks b i (n + 1)
    given_more = ap (given_in (to_of b) i) (sym (add-one n))

    any : T * (ticks + (Q - 1)) / weight + (M - 1) * Q - (Q - 1) ≤ given_ticks b i (n + 1)
        → ticks ≤ served_ticks b slot i (n + 1)
    any had =
        let share = has-share sharing b book slot on.since weight i n le on.early on.sits asks in
        let share' : weight * given_ticks b i (n + 1)
        ≤ T * served_ticks b slot i (n + 1) + (T - weight) * Q + weight * ((M - 1) * Q) =
        rw (← given_more, ← served_more) share in
        in_time weight T Q ((M - 1) * Q) (served_ticks b slot i (n + 1)) (given_ticks b i (n + 1)) ticks
        (T * (ticks + (Q - 1)) / weight) some (some_quantum sharing b book) share'
        (rounded (T * (ticks + (Q - 1))) weight some) fits had

    level : IsLevel Q b slot i → T * (ticks - 1) / weight + ((M - 1) * Q + 1) ≤ given_ticks b i (n + 1)
        → ticks ≤ served_ticks b slot i (n + 1)
    level is had =
        let share = level_share sharing b book slot on.since weight i n le on.early on.sits asks is in
        let share' : weight * given_ticks b i (n + 1) ≤ T * served_ticks b slot i (n + 1) + weight * ((M - 1) * Q) =
        rw (← given_more, ← served_more) share in
        level_in_time weight T ((M - 1) * Q) (served_ticks b slot i (n + 1)) (given_ticks b i (n + 1)) ticks
        (T * (ticks - 1) / weight) some share' (rounded (T * (ticks - 1)) weight some) had

  whole : (i n slot weight : ℕ) → i + n < now_of b → AsksThroughout b slot weight i n → IsGivenThroughout sharing b i n
      → given_ticks b i (n + 1) ≡ n + 1
  whole i n slot weight lt on has =
      count-all (λ t. is_some (row_at b t).to) i (n + 1)
      (λ t ge less. has t ge (omega (arith, less))
      (fair_asks sharing b book slot t (on.asks t ge (omega (arith, less)))))

  pub keeps_delays : KeepsDelays sharing b
  keeps_delays = record { any = any; level = level; whole = whole }
