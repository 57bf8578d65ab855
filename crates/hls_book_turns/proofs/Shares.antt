-- What the scheduler has is divided among its seats, shares and windows.
use Rattle.std.proofs.Common.{ℕ, ◌+◌, ◌-◌, ◌≤◌, Bool, false, arith, inl, inr}
use Rattle.std.proofs.lemmas.Bool.{cases_lt}
use Rattle.hls_chron.specs.declared.plain.Config.TheVariants.{Rr}
use Rattle.hls_chron.specs.declared.plain.Terms.TheVariants.{Turn}
use Rattle.hls_chron.specs.Ledger.{Ledger}
use Rattle.hls_chron.specs.Ticks.{count}
use Rattle.hls_kinds.specs.Made.{IsMade}
use Rattle.hls_guarantee.specs.declared.Guarantee.TheVariants.{All, Resc}
use Rattle.hls_guarantee.specs.Satisfaction.{IsReserved}
use Rattle.hls_guarantee.proofs.Readings.{soft, all-windows}
use Rattle.hls_book.specs.Promise.{given}
use Rattle.hls_book.specs.Runs.{served_ticks}
use Rattle.hls_book.proofs.Books.{admission_made}
use Rattle.hls_book.proofs.TurnPromises.{IsShared, parts_met, share_passed, some, turn_asks}
use Rattle.hls_book_turns.specs.Shares.{IsPassedOn, KeepsTurnPromise}
use Rattle.hls_book_turns.specs.Waits.{delay}
use Rattle.hls_book_turns.proofs.Waits.{more_beside}

module _ (quantum : ℕ) (b : Ledger) (made : IsMade (Rr quantum) b) where
  -- where its own ticks were not had, others had no more than they may while the seat has one less
  own_had : (x y own n : ℕ) (slot port i : ℕ) → delay quantum own ≤ x → n ≤ y → IsShared quantum b slot port i n
      → x + n ≤ y + count (given b port) i n → own + n ≤ y + served_ticks b slot i n
  own_had x y own n slot port i long short is given = elim (cases_lt (served_ticks b slot i n) own) [
    | inr had ↦ omega (arith, had, short)
    | inl less ↦
        let most = more_beside quantum 31 (served_ticks b slot i n) (own - 1) (some quantum b made) (omega arith)
        (omega (arith, less)) in
        omega (arith, less, most, is.theirs, is.all, long, given)
  ]

  windows : (hard : Bool) (x y own : ℕ) → delay quantum own ≤ x → IsPassedOn quantum b (Resc hard x y)
      (Resc false own y)
  windows hard x y own long slot since port sits supplied =
      let later = (admission_made (Rr quantum) b made).stood.later slot since Turn sits in
      record {
        met = λ i j from to asks.
            parts_met quantum b made (λ k n got. n ≤ y → IsReserved hard x y n got)
            (λ k n got. n ≤ y → IsReserved false own y n got) slot since port i j sits from to asks
            (λ k n is has short.
            soft own y n (served_ticks b slot k n)
            (own_had x y own n slot port k long short is (has short).enough))
            (supplied.met i j (omega (arith, later.0, from)) to
            (λ t ge lt. turn_asks quantum b made slot t (asks t ge lt)));
        capped = tt;
      }

  every : (own : ℕ) → IsPassedOn quantum b All (Resc false own (delay quantum own))
  every own slot since port sits supplied =
      let n : ℕ = delay quantum own in
      windows false n n own (omega arith) slot since port sits (record {
        met = λ i j from to asks. all-windows n n (given b port) i j (omega arith) (supplied.met i j from to asks);
        capped = tt;
      })

  pub turn_promise : KeepsTurnPromise quantum b
  turn_promise = record {
    shares = λ s d s' d' share slot since port sits supplied.
        share_passed quantum b made slot since port s d s' d' sits share supplied;
    windows = windows;
    every = every;
  }
