-- What the room says of a seat that counts as asking.
use Rattle.std.proofs.Common.{◌≡◌, ◌≢◌, ℕ, ◌+◌, ◌*◌, ◌-◌, ◌<◌, ◌≤◌, arith, inl, inr, true}
use Rattle.std.proofs.lemmas.Bool.{cases_lt, cases_Bool}
use Rattle.hls_book.specs.Demand.{owed}
use Rattle.hls_book.specs.declared.server.Server.{Server}
use Rattle.hls_book.specs.Servers.{AreSound, HaveRoom, replenished, is_due, claimed_by, parts_in}
use Rattle.hls_book.specs.Servers.{claimed_in}
use Rattle.hls_book.proofs.Owed.{owed-due, budget-within, spent}
use Rattle.hls_kinds.proofs.Sums.{sum-at}
use Rattle.hls_book.proofs.Claimed.{claimed-on, due-off-not, due-on-not}
use Rattle.hls_book.proofs.Replenishing.{replenished-set, replenished-kept}

-- the room at one seat that counts as asking
seat_room : (whole n : ℕ) (servers : ℕ → Server) (now bound k : ℕ) → now ≤ bound → k < n
    → HaveRoom whole n servers now → (servers k).asked ≡ true
    → owed whole (servers k).budget (servers k).deadline (servers k).parts bound
    ≤ parts_in servers n * (bound - now)
seat_room whole n servers now bound k le lt room on =
    let here : claimed_by whole (servers k) now bound ≤ claimed_in whole servers n now bound =
    sum-at (λ j. claimed_by whole (servers j) now bound) n k lt in
    let is : claimed_by whole (servers k) now bound ≡ owed whole (servers k).budget (servers k).deadline
    (servers k).parts bound =
    rw on (claimed-on whole (servers k).budget (servers k).deadline (servers k).parts now bound) in
    omega (arith, here, is, room.room bound le)

-- at its deadline it has no budget, and the deadline is not past
pub at_deadline : (whole n : ℕ) (servers : ℕ → Server) (now k : ℕ) → 0 < whole → k < n
    → AreSound whole n servers → HaveRoom whole n servers now → (servers k).asked ≡ true
    → (servers k).deadline ≤ now → ((servers k).budget ≡ 0) × ((servers k).deadline ≡ now)
at_deadline whole n servers now k pos lt kept have on past =
    let room = seat_room whole n servers now now k (omega arith) lt have on in
    let same : now - now ≡ 0 = omega arith in
    let zeros : parts_in servers n * (now - now) ≡ 0 = rw same (omega arith) in
    spent whole (servers k).budget (servers k).deadline (servers k).parts now pos
    ((kept.sound k lt).live on) past (omega arith)

-- it has no more budget than ticks to its deadline
pub budget_fits : (whole n : ℕ) (servers : ℕ → Server) (now k : ℕ) → 0 < whole → k < n
    → AreSound whole n servers → HaveRoom whole n servers now → (servers k).asked ≡ true
    → (now ≤ (servers k).deadline) × ((servers k).budget + now ≤ (servers k).deadline)
budget_fits whole n servers now k pos lt kept have on = elim (cases_lt now (servers k).deadline) [
  | inr past ↦ let h = at_deadline whole n servers now k pos lt kept have on past in
      (omega (arith, h.1), omega (arith, h.0, h.1))
  | inl ahead ↦
      let le : now ≤ (servers k).deadline = omega arith in
      let room = seat_room whole n servers now (servers k).deadline k le lt have on in
      let due : owed whole (servers k).budget (servers k).deadline (servers k).parts (servers k).deadline
      ≡ (servers k).budget * whole + (servers k).parts * ((servers k).deadline - (servers k).deadline)
      = owed-due whole (servers k).budget (servers k).deadline (servers k).parts (servers k).deadline
      (omega arith) in
      let fits = budget-within whole (parts_in servers n) (servers k).budget (servers k).deadline now pos
      kept.fits (omega arith) in
      (le, omega arith)
]

-- after the replenishments, the deadline of a seat that asks is ahead
pub replenished_ahead : (whole n : ℕ) (servers : ℕ → Server) (now k : ℕ) → 0 < whole → k < n
    → AreSound whole n servers → HaveRoom whole n servers now → 0 < (servers k).y
    → now + 1 ≤ (replenished whole (servers k) true now).deadline
replenished_ahead whole n servers now k pos lt kept have wide =
    elim (cases_Bool (is_due whole (servers k) now)) [
      | inl is ↦ rw (replenished-set whole (servers k) now is) (omega arith)
      | inr not ↦ rw (replenished-kept whole (servers k) now not) (elim (cases_Bool (servers k).asked) [
        | inl on ↦
            let ne : (servers k).deadline ≢ now = due-on-not whole (servers k).x (servers k).y
            (servers k).parts (servers k).budget (servers k).deadline now (rw on at not) in
            let le = (budget_fits whole n servers now k pos lt kept have on).0 in
            omega arith
        | inr off ↦ let h = due-off-not whole (servers k).x (servers k).y (servers k).parts
            (servers k).budget
            (servers k).deadline now (rw off at not) in omega (arith, h.0)
      ])
    ]
