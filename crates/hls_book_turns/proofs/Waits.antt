-- What other slots have while a seat asks, each and together.
use Rattle.std.proofs.Common.{◌≡◌, ◌≢◌, ℕ, zero, suc, ◌+◌, ◌-◌, ◌*◌, ◌<◌, ◌≤◌, Bool, true, false}
use Rattle.std.proofs.Common.{refl, ap, ◌∙◌, arith, inl, inr, add-one}
use Rattle.std.specs.Prelude.{not, ◌&&◌, ◌/◌, ◌==◌, nat_lt}
use Rattle.std.proofs.Math.Nat.{mul-le-mul_left, mul-le-mul_right}
use Rattle.std.proofs.lemmas.Bool.{cases_eq, cases_lt, lt-ltb, eq-eqb, ne_eqb}
use Rattle.std.proofs.lemmas.Nat.{le-div}
use Rattle.hls_chron.specs.declared.plain.Config.TheVariants.{Rr}
use Rattle.hls_chron.specs.declared.plain.Terms.TheVariants.{Turn}
use Rattle.hls_chron.specs.Ledger.{Ledger, now_of, before}
use Rattle.hls_chron.specs.Seats.{served}
use Rattle.hls_chron.specs.Ticks.{one_if, count}
use Rattle.hls_chron.proofs.CountLaws.{one_if-le, count-within, count-none, count-push, count-more}
use Rattle.hls_kinds.specs.Made.{IsMade}
use Rattle.hls_kinds.specs.Slots.{sum_below}
use Rattle.hls_kinds.proofs.MarkLaws.{sits_on}
use Rattle.hls_kinds.proofs.Sums.{sum-suc, sum-zero}
use Rattle.hls_book.specs.Runs.{given_ticks, served_ticks, ticks_of_others}
use Rattle.hls_book.specs.Turns.{most_beside}
use Rattle.hls_book.proofs.Books.{admission_made}
use Rattle.hls_book.proofs.Circle.{is_other, others}
use Rattle.hls_book.proofs.PromiseLaws.{served-to, to-served}
use Rattle.hls_book.proofs.TurnPromises.{others-few, theirs-all, all-ticks, whole, linear, some}
use Rattle.hls_book.proofs.TurnRuns.{IsPassed, passes_over}
use Rattle.hls_book.proofs.TurnTicks.{is_theirs, serves_theirs}
use Rattle.hls_book_turns.specs.Runs.{AsksForTurns, rivals}
use Rattle.hls_book_turns.specs.Waits.{PassesNoSeatOver, ServesAlike, KeepsDelays}
use Rattle.hls_book_turns.specs.Shares.{KeepsPart}

-- ---- the other slots

-- of one slot there is one
not_it : (other slot s : ℕ) → s ≢ other → one_if (is_other (λ k. k == other) slot s) ≡ 0
not_it other slot s apart = rw (ne_eqb s other apart) (either (not (s == slot)))
  where
    either : (is : Bool) → one_if (is && false) ≡ 0
    either true = refl
    either false = refl

one_of : (other slot n : ℕ) → n ≤ other
    → sum_below (λ s. one_if (is_other (λ k. k == other) slot s)) n ≡ 0
one_of other slot zero le = sum-zero (λ s. one_if (is_other (λ k. k == other) slot s))
one_of other slot (suc n) le = omega (
  arith,
  sum-suc (λ s. one_if (is_other (λ k. k == other) slot s)) n,
  one_of other slot n (omega (arith, le)),
  not_it other slot n (λ same. omega (arith, same, le)),
)

one_at_most : (other slot n : ℕ) → sum_below (λ s. one_if (is_other (λ k. k == other) slot s)) n ≤ 1
one_at_most other slot zero = rw (sum-zero (λ s. one_if (is_other (λ k. k == other) slot s))) (omega arith)
one_at_most other slot (suc n) = elim (cases_eq n other) [
  | inl same ↦ omega (
    arith,
    sum-suc (λ s. one_if (is_other (λ k. k == other) slot s)) n,
    one_of other slot n (omega (arith, same)),
    one_if-le (is_other (λ k. k == other) slot n),
  )
  | inr apart ↦ omega (
    arith,
    sum-suc (λ s. one_if (is_other (λ k. k == other) slot s)) n,
    one_at_most other slot n,
    not_it other slot n apart,
  )
]

-- one tick of a test is counted
counted : (f : ℕ → Bool) (i n t : ℕ) → i ≤ t → t < i + n → f t ≡ true → 0 < count f i n
counted f i n t ge lt hit =
    let all = (count-within f i n t 1 ge (omega (arith, lt))).less in
    let first = count-push f t 0 in
    let none = count-none f t in
    let here : one_if (f (t + 0)) ≡ 1 = ap one_if (ap f (let same : t + 0 ≡ t = omega arith in same) ∙ hit) in
    omega (arith, all, first, none, here)

-- the slots that are served in a run
abbrev pub in_run : Ledger → (i n : ℕ) → ℕ → Bool
in_run b i n = λ other. nat_lt 0 (served_ticks b other i n)

all_theirs : (b : Ledger) (slot i n : ℕ)
    → ticks_of_others b slot i n ≡ count (serves_theirs b (in_run b i n) slot) i n
all_theirs b slot i n =
    theirs-all b (in_run b i n) slot i n
    (λ t s ge lt to.
    lt-ltb 0 (served_ticks b s i n) (counted (served b s) i n t ge lt (to-served b s s t to refl)))

-- ---- rounds

pub more_beside : (quantum few own last : ℕ) → 0 < quantum → few ≤ 31 → own ≤ last
    → few * most_beside quantum own ≤ 31 * most_beside quantum last
more_beside quantum few own last some le early =
    let turns : own / quantum ≤ last / quantum =
    le-div (own / quantum) last quantum some (omega (arith, whole own quantum some, early)) in
    let rounds : most_beside quantum own ≤ most_beside quantum last =
    mul-le-mul_left quantum (omega (arith, turns)) in
    let most : few * most_beside quantum own ≤ 31 * most_beside quantum own =
    mul-le-mul_right (most_beside quantum own) le in
    omega (arith, rounds, most)

module _ (quantum : ℕ) (b : Ledger) (made : IsMade (Rr quantum) b) where
  -- slots of a test have at most as much for each of them
  passed : (among : ℕ → Bool) (i n slot : ℕ) → i + n < now_of b → AsksForTurns b slot i n
      → IsPassed quantum b slot among i (n + 1)
  passed among i n slot ends on =
      rw (add-one n) (
      (passes_over quantum (some quantum b made) b made).sat slot on.since i n Turn among ends on.sits on.early
      (λ t ge lt. on.asks t ge (omega (arith, lt))))

  few : (i n m slot : ℕ) → i + n < now_of b → AsksForTurns b slot i n → rivals b slot i m ≤ 31
  few i n m slot ends on =
      let lt : slot < 32 = ((admission_made (Rr quantum) b made).had (i + n) ends).within slot Turn
      (sits_on (before (i + n) b) slot on.since Turn on.sits) in
      others-few (in_run b i m) slot lt

  all : (i n slot : ℕ) → i + n < now_of b → AsksForTurns b slot i n
      → ticks_of_others b slot i (n + 1)
      ≤ rivals b slot i (n + 1) * most_beside quantum (served_ticks b slot i (n + 1))
  all i n slot ends on = rw (all_theirs b slot i (n + 1)) (passed (in_run b i (n + 1)) i n slot ends on)

  each : (i n slot other : ℕ) → i + n < now_of b → AsksForTurns b slot i n → other ≢ slot
      → served_ticks b other i (n + 1) ≤ most_beside quantum (served_ticks b slot i (n + 1))
  each i n slot other ends on apart =
      let theirs = passed (λ s. s == other) i n slot ends on in
      let less = count-more (served b other) (serves_theirs b (λ s. s == other) slot) i (n + 1)
      (λ t is. let to = served-to b other t is in
      ap (is_theirs (λ s. s == other) slot) to ∙ rw (ne_eqb other slot apart, eq-eqb other other refl) refl) in
      let one : others (λ s. s == other) slot ≤ 1 = one_at_most other slot 32 in
      let most = mul-le-mul_right (most_beside quantum (served_ticks b slot i (n + 1))) one in
      omega (arith, theirs, less, most)

  pub passes_none : PassesNoSeatOver quantum b
  passes_none = record { each = each; all = all; few = λ i n slot ends on. few i n (n + 1) slot ends on }

  pub alike : ServesAlike quantum b
  alike = λ i n slot other ends on rival. elim (cases_eq other slot) [
    | inl same ↦ rw same (omega arith)
    | inr apart ↦
        let most = each i n slot other ends on apart in
        omega (arith, most, whole (served_ticks b slot i (n + 1)) quantum (some quantum b made))
  ]

  pub parts : KeepsPart quantum b
  parts = record { others = theirs; part = part }
    where
      theirs : (i n slot : ℕ) → i + n < now_of b → AsksForTurns b slot i n
          → ticks_of_others b slot i (n + 1) ≤ 31 * (served_ticks b slot i (n + 1) + quantum)
      theirs i n slot ends on =
          let most = mul-le-mul_right (most_beside quantum (served_ticks b slot i (n + 1)))
          (few i n (n + 1) slot ends on) in
          linear quantum (served_ticks b slot i (n + 1)) (ticks_of_others b slot i (n + 1)) (some quantum b made)
          (omega (arith, all i n slot ends on, most))

      part : (i n slot : ℕ) → i + n < now_of b → AsksForTurns b slot i n
          → given_ticks b i (n + 1) ≤ 32 * served_ticks b slot i (n + 1) + 31 * quantum
      part i n slot ends on = omega (arith, theirs i n slot ends on, all-ticks b slot i (n + 1))

  pub delays : KeepsDelays quantum b
  delays = λ i n slot own ends on had. elim (cases_lt (served_ticks b slot i (n + 1)) own) [
    | inr enough ↦ enough
    | inl short ↦
        let theirs = all i n slot ends on in
        let most = more_beside quantum (rivals b slot i (n + 1)) (served_ticks b slot i (n + 1)) (own - 1)
        (some quantum b made) (few i n (n + 1) slot ends on) (omega (arith, short)) in
        absurd (omega (arith, theirs, most, had, short, all-ticks b slot i (n + 1)))
  ]
