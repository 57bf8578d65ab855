-- A run of ticks in which a seat asks throughout satisfies its reservation.
use Rattle.std.proofs.Common.{◌≡◌, ℕ, zero, suc, ◌+◌, ◌*◌, ◌-◌, ◌/◌, ◌%◌, ◌<◌, ◌≤◌, sym, arith, inl, inr, ap}
use Rattle.std.proofs.Common.{◌∙◌}
use Rattle.std.proofs.Common.{Bool, true, subst}
use Rattle.std.proofs.Math.Nat.{mul-le-mul_right, add-mul}
use Rattle.std.proofs.lemmas.Bool.{cases_lt, cases_Bool}
use Rattle.hls_chron.specs.Ticks.{one_if, count}
use Rattle.hls_chron.proofs.CountLaws.{count-none, count-push, count-le, count-add, count-within}
use Rattle.hls_kinds.specs.declared.reservations.Reservation.{Reservation}
use Rattle.hls_kinds.specs.Reservations.{deadline_after, budget_after}
use Rattle.hls_guarantee.specs.declared.Guarantee.TheVariants.{Resb}
use Rattle.hls_guarantee.specs.Satisfaction.{Satisfies, IsReserved, InPiece}
use Rattle.hls_book.specs.Recomputed.{server_within}
use Rattle.hls_book.specs.Stays.{EachTick, EachHard}
use Rattle.hls_book.proofs.ServerRuns.{IsLast, AsksOn, last_there, run_phase, run_stays}

-- what the budget and the deadline are by the last replenishment
budget_is : (r : Reservation) (asks serves : ℕ → Bool) (n l : ℕ) → IsLast r asks serves n l
    → (server_within r asks serves n).budget ≡ r.x - count serves l (r.since + n - l)
budget_is r asks serves n l is = ap (λ last. budget_after r serves last (r.since + n)) is.last

deadline_is : (r : Reservation) (asks serves : ℕ → Bool) (n l : ℕ) → IsLast r asks serves n l
    → (server_within r asks serves n).deadline ≡ l + r.y
deadline_is r asks serves n l is = ap (deadline_after r) is.last

-- m + 1 ticks from the nth since on, up to the deadline
pub piece_enough : (r : Reservation) (asks serves : ℕ → Bool) (now n m l : ℕ) → 0 < r.y → AsksOn r asks n m
    → IsLast r asks serves n l → r.since + n + m + 1 ≤ l + r.y → r.since + n + m < now
    → EachTick r asks serves now → r.x + (m + 1) ≤ r.y + count serves (r.since + n) (m + 1)
piece_enough r asks serves now n m l wide on is within before each =
    let last = run_stays r asks serves n m l wide on is within in
    let fits = each.fits (n + m) (omega arith) (on (r.since + (n + m)) (omega arith) (omega arith)) in
    let budget = budget_is r asks serves (n + m) l last in
    let deadline = deadline_is r asks serves (n + m) l last in
    let at : l + (r.since + (n + m) - l) ≡ r.since + (n + m) = omega (arith, last.before) in
    let push : count serves l (suc (r.since + (n + m) - l))
    ≡ count serves l (r.since + (n + m) - l) + one_if (serves (r.since + (n + m))) =
    count-push serves l (r.since + (n + m) - l)
    ∙ ap (λ t. count serves l (r.since + (n + m) - l) + one_if (serves t)) at in
    let all : suc (r.since + (n + m) - l) ≡ r.since + n - l + (m + 1) = omega (arith, is.before) in
    let split = count-add serves l (r.since + n - l) (m + 1) in
    let from : l + (r.since + n - l) ≡ r.since + n = omega (arith, is.before) in
    let part : count serves (l + (r.since + n - l)) (m + 1) ≡ count serves (r.since + n) (m + 1) =
    ap (λ t. count serves t (m + 1)) from in
    let whole : count serves l (suc (r.since + (n + m) - l)) ≡ count serves l (r.since + n - l + (m + 1)) =
    ap (count serves l) all in
    let early = count-le serves l (r.since + n - l) in
    omega (arith, fits, budget, deadline, push, split, part, whole, early, is.before)

-- of a hard seat
pub piece_capped : (r : Reservation) (asks serves : ℕ → Bool) (now n m l : ℕ)
    → ((k : ℕ) → k < m → IsLast r asks serves (n + k) l) → r.since + n + m ≤ now
    → EachHard r asks serves now → count serves (r.since + n) m ≤ r.x
piece_capped r asks serves now n zero l last before own = rw (count-none serves (r.since + n)) (omega arith)
piece_capped r asks serves now n (suc m) l last before own =
    let rest = piece_capped r asks serves now n m l (λ k lt. last k (omega (arith, lt)))
    (omega (arith, before)) own in
    let here = last m (omega arith) in
    let first = last 0 (omega arith) in
    let push = count-push serves (r.since + n) m in
    elim (cases_Bool (serves (r.since + n + m))) [
      | inr idle ↦ let none : one_if (serves (r.since + n + m)) ≡ 0 = ap one_if idle in
          omega (arith, rest, push, none)
      | inl serving ↦
          let same : r.since + n + m ≡ r.since + (n + m) = omega arith in
          let left = own.budget (n + m) (omega arith) (rw same at serving) in
          let budget = budget_is r asks serves (n + m) l here in
          let one : one_if (serves (r.since + n + m)) ≡ 1 = ap one_if serving in
          let part = count-within serves l (r.since + (n + m) - l) (r.since + n) m
          (omega (arith, first.before))
          (omega (arith, here.before)) in
          omega (arith, push, one, left, budget, part.less)
    ]

-- the piece in which a tick lies ends with the deadline
cut_after : (y e base c l t : ℕ) → 0 < y → l ≡ e + base * y → l ≤ t → t + 1 ≤ l + y → e + c * y ≤ t + y
    → t + 1 ≤ e + c * y → e + c * y ≡ l + y
cut_after y e base c l t wide at before ahead starts ends = elim (cases_lt c (base + 1)) [
  | inl small ↦ let le : c * y ≤ base * y = mul-le-mul_right y (let f : c ≤ base = omega arith in f) in
      absurd (omega arith)
  | inr large ↦ elim (cases_lt (base + 1) c) [
    | inl larger ↦
        let le : (base + 2) * y ≤ c * y = mul-le-mul_right y (let f : base + 2 ≤ c = omega arith in f) in
        absurd (omega arith)
    | inr there ↦ let same : c ≡ base + 1 = omega arith in rw same (omega arith)
  ]
]

-- a part of no ticks
empty_part : (hard : Bool) (x y : ℕ) (serves : ℕ → Bool) (i : ℕ) → x ≤ y
    → IsReserved hard x y 0 (count serves i 0)
empty_part hard x y serves i le =
    rw (count-none serves i) (record { enough = omega arith; capped = λ h. omega arith })

-- a part of some ticks of a run, in one piece
some_part : (r : Reservation) (hard : Bool) (asks serves : ℕ → Bool) (now n k m l e base : ℕ) → 0 < r.y
    → AsksOn r asks n (k + m) → IsLast r asks serves n l → l ≡ e + base * r.y → r.since + n + k + m < now
    → InPiece e r.y (r.since + (n + k)) (m + 1) → EachTick r asks serves now
    → (hard ≡ true → EachHard r asks serves now)
    → IsReserved hard r.x r.y (m + 1) (count serves (r.since + (n + k)) (m + 1))
some_part r hard asks serves now n k m l e base wide on is at before piece each own =
    let begun = run_phase r asks serves n k l wide (λ t from to. on t from (omega (arith, to))) is in
    let there : l + begun.0 * r.y ≡ e + (base + begun.0) * r.y = omega (arith, at, add-mul base begun.0 r.y)
    in
    let end : e + piece.cut * r.y ≡ l + begun.0 * r.y + r.y =
    cut_after r.y e (base + begun.0) piece.cut (l + begun.0 * r.y) (r.since + (n + k)) wide there
    begun.1.before
    begun.1.ahead piece.starts (omega (arith, piece.ends)) in
    let within : r.since + (n + k) + m + 1 ≤ l + begun.0 * r.y + r.y = omega (arith, end, piece.ends) in
    let on_there : AsksOn r asks (n + k) m = λ t from to. on t (omega (arith, from)) (omega (arith, to)) in
    record {
      enough = piece_enough r asks serves now (n + k) m (l + begun.0 * r.y) wide on_there begun.1 within
          (omega arith) each;
      capped = λ h. piece_capped r asks serves now (n + k) (m + 1) (l + begun.0 * r.y)
          (λ j lt. run_stays r asks serves (n + k) j (l + begun.0 * r.y) wide
          (λ t from to. on_there t from (omega (arith, to, lt))) begun.1 (omega (arith, within, lt)))
          (omega arith) (own h);
    }

part_of : (r : Reservation) (hard : Bool) (asks serves : ℕ → Bool) (now n len l e base k m : ℕ) → 0 < r.y
    → r.x ≤ r.y
    → AsksOn r asks n len → IsLast r asks serves n l → l ≡ e + base * r.y → r.since + n + len < now
    → k + m ≤ len + 1 → InPiece e r.y (r.since + (n + k)) m → EachTick r asks serves now
    → (hard ≡ true → EachHard r asks serves now)
    → IsReserved hard r.x r.y m (count serves (r.since + (n + k)) m)
part_of r hard asks serves now n len l e base k zero wide narrow on is at before within piece each own =
    empty_part hard r.x r.y serves (r.since + (n + k)) narrow
part_of r hard asks serves now n len l e base k (suc m) wide narrow on is at before within piece each own =
    let same : suc m ≡ m + 1 = omega arith in
    rw same (some_part r hard asks serves now n k m l e base wide
    (λ t from to. on t from (omega (arith, to, within)))
    is at (omega arith) (rw same at piece) each own)

-- the ticks from i on and before j
pub run_satisfies : (r : Reservation) (hard : Bool) (asks serves : ℕ → Bool) (now i j : ℕ) → 0 < r.x
    → r.x ≤ r.y
    → r.since ≤ i → j ≤ now → ((t : ℕ) → i ≤ t → t < j → asks t ≡ true) → EachTick r asks serves now
    → (hard ≡ true → EachHard r asks serves now) → Satisfies (Resb hard r.x r.y) serves i j
run_satisfies r hard asks serves now i j some narrow since to on each own =
    let wide : 0 < r.y = omega (arith, some, narrow) in
    elim (cases_lt i j) [
      | inr none ↦ (
        0,
        wide,
        λ a n from end piece.
            let zero_ticks : n ≡ 0 = omega arith in rw zero_ticks (empty_part hard r.x r.y serves a narrow),
      )
      | inl more ↦
          let first : r.since + (i - r.since) ≡ i = omega arith in
          let begun = last_there r asks serves (i - r.since) wide
          (on (r.since + (i - r.since)) (omega arith) (omega arith)) in
          let whole : begun.0 ≡ begun.0 % r.y + begun.0 / r.y * r.y = omega arith in (
            begun.0 % r.y,
            omega arith,
            λ a n from end piece.
                let there : r.since + (i - r.since + (a - i)) ≡ a = omega arith in
                subst (λ t. IsReserved hard r.x r.y n (count serves t n)) there
                (part_of r hard asks serves now (i - r.since) (j - i - 1) begun.0 (begun.0 % r.y)
                (begun.0 / r.y) (a - i) n
                wide narrow (λ t lo hi. on t (omega (arith, lo)) (omega (arith, hi))) begun.1 whole
                (omega arith) (omega arith)
                (subst (λ t. InPiece (begun.0 % r.y) r.y t n) (sym there) piece) each own),
          )
    ]
