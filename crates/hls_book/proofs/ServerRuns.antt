-- A run of ticks in which a seat asks throughout: it is replenished a period apart, and each piece of the run
-- between two replenishments has what the reservation promises.
use Rattle.std.proofs.Common.{◌≡◌, ℕ, zero, suc, ◌+◌, ◌*◌, ◌-◌, ◌<◌, ◌≤◌, refl, sym, arith, inl, inr, ap, ◌∙◌}
use Rattle.std.proofs.Common.{Bool, true, false, Some, None, add-zero, add-suc}
use Rattle.std.specs.Prelude.{◌⊎◌, Option, ◌==◌}
use Rattle.std.proofs.lemmas.Bool.{cases_Bool, eqb-true}
use Rattle.hls_kinds.specs.declared.reservations.Reservation.{Reservation}
use Rattle.hls_kinds.specs.Reservations.{deadline_after, last_replenished, is_replenished}
use Rattle.hls_book.proofs.Deadlines.{IsRenewed, last-set, last-kept, last_before, last_since, none_asked}
use Rattle.hls_book.proofs.Pacing.{within_ahead}

-- after the replenishment of the nth tick since, the last one is of the tick l
pub record IsLast (r : Reservation) (asks serves : ℕ → Bool) (n l : ℕ) : Type 0 where
  pub last : last_replenished r asks serves (suc n) ≡ Some l
  pub since : r.since ≤ l
  pub before : l ≤ r.since + n
  pub ahead : r.since + n + 1 ≤ l + r.y

some_or_none : (o : Option ℕ) → ((l : ℕ) × (o ≡ Some l)) ⊎ (o ≡ None)
some_or_none None = inr refl
some_or_none (Some l) = inl (l, refl)

last_of_some : (r : Reservation) (asks serves : ℕ → Bool) (n l : ℕ) → 0 < r.y → asks (r.since + n) ≡ true
    → last_replenished r asks serves (suc n) ≡ Some l → IsLast r asks serves n l
last_of_some r asks serves n l wide on is =
    let ahead : r.since + n + 1 ≤ deadline_after r (last_replenished r asks serves (suc n)) =
    within_ahead r asks serves n wide on in
    record {
      last = is;
      since = last_since r asks serves (suc n) l is;
      before = omega (arith, last_before r asks serves (suc n) l is);
      ahead = rw is at ahead;
    }

-- a seat that asks was replenished
pub last_there : (r : Reservation) (asks serves : ℕ → Bool) (n : ℕ) → 0 < r.y → asks (r.since + n) ≡ true
    → (l : ℕ) × IsLast r asks serves n l
last_there r asks serves n wide on = elim (some_or_none (last_replenished r asks serves (suc n))) [
  | inl some ↦ (some.0, last_of_some r asks serves n some.0 wide on some.1)
  | inr none ↦ let silent : asks (r.since + n) ≡ false = none_asked r asks serves (suc n) none in absurd (cc)
]

-- whether the next tick is a replenishment of a seat that asks on
renewed_next : (r : Reservation) (asks serves : ℕ → Bool) (n l : ℕ) → asks (r.since + n) ≡ true
    → asks (r.since + suc n) ≡ true → is_replenished r asks serves (suc n) (Some l)
    ≡ (l + r.y == r.since + suc n)
renewed_next r asks serves n l on next =
    let before : r.since + suc n - 1 ≡ r.since + n = omega arith in rw (next, before, on) refl

next_kept : (r : Reservation) (asks serves : ℕ → Bool) (n l : ℕ) → asks (r.since + n) ≡ true
    → asks (r.since + suc n) ≡ true → last_replenished r asks serves (suc n) ≡ Some l
    → (l + r.y == r.since + suc n) ≡ false → last_replenished r asks serves (suc (suc n)) ≡ Some l
next_kept r asks serves n l on next is not =
    let test : IsRenewed r asks serves (suc n) ≡ false =
    ap (is_replenished r asks serves (suc n)) is ∙ renewed_next r asks serves n l on next ∙ not in
    last-kept r asks serves (suc n) test ∙ is

next_set : (r : Reservation) (asks serves : ℕ → Bool) (n l : ℕ) → asks (r.since + n) ≡ true
    → asks (r.since + suc n) ≡ true → last_replenished r asks serves (suc n) ≡ Some l
    → (l + r.y == r.since + suc n) ≡ true → last_replenished r asks serves (suc (suc n)) ≡ Some (l + r.y)
next_set r asks serves n l on next is due =
    let test : IsRenewed r asks serves (suc n) ≡ true =
    ap (is_replenished r asks serves (suc n)) is ∙ renewed_next r asks serves n l on next ∙ due in
    last-set r asks serves (suc n) test ∙ ap Some (sym (eqb-true (l + r.y) (r.since + suc n) due))

-- the seat asks in each of the ticks from the nth since on, m more of them after it
abbrev pub AsksOn : Reservation → (asks : ℕ → Bool) → (n m : ℕ) → Type 0
AsksOn r asks n m = (t : ℕ) → r.since + n ≤ t → t ≤ r.since + n + m → asks t ≡ true

-- along a run the replenishments are whole periods apart
pub run_phase : (r : Reservation) (asks serves : ℕ → Bool) (n m l : ℕ) → 0 < r.y → AsksOn r asks n m
    → IsLast r asks serves n l → (c : ℕ) × IsLast r asks serves (n + m) (l + c * r.y)
run_phase r asks serves n zero l wide on is =
    let same : n + 0 ≡ n = add-zero n in
    let here : l + 0 * r.y ≡ l = omega arith in
    (0, rw (same, here) is)
run_phase r asks serves n (suc m) l wide on is =
    let before = run_phase r asks serves n m l wide (λ t from to. on t from (omega (arith, to))) is in
    let now : asks (r.since + (n + m)) ≡ true = on (r.since + (n + m)) (omega arith) (omega arith) in
    let next : asks (r.since + suc (n + m)) ≡ true = on (r.since + suc (n + m)) (omega arith) (omega arith) in
    let more : n + suc m ≡ suc (n + m) = add-suc n m in
    rw more (elim (cases_Bool (l + before.0 * r.y + r.y == r.since + suc (n + m))) [
      | inl due ↦
          let same : l + suc before.0 * r.y ≡ l + before.0 * r.y + r.y = omega arith in (
            suc before.0,
            rw same (last_of_some r asks serves (suc (n + m)) (l + before.0 * r.y + r.y) wide next
                (next_set r asks serves (n + m) (l + before.0 * r.y) now next before.1.last due)),
          )
      | inr not ↦ (
        before.0,
        last_of_some r asks serves (suc (n + m)) (l + before.0 * r.y) wide next
            (next_kept r asks serves (n + m) (l + before.0 * r.y) now next before.1.last not),
      )
    ])

-- up to the deadline it stays
pub run_stays : (r : Reservation) (asks serves : ℕ → Bool) (n m l : ℕ) → 0 < r.y → AsksOn r asks n m
    → IsLast r asks serves n l → r.since + n + m + 1 ≤ l + r.y → IsLast r asks serves (n + m) l
run_stays r asks serves n zero l wide on is within = let same : n + 0 ≡ n = add-zero n in rw same is
run_stays r asks serves n (suc m) l wide on is within =
    let before = run_stays r asks serves n m l wide (λ t from to. on t from (omega (arith, to))) is
    (omega (arith, within)) in
    let now : asks (r.since + (n + m)) ≡ true = on (r.since + (n + m)) (omega arith) (omega arith) in
    let next : asks (r.since + suc (n + m)) ≡ true = on (r.since + suc (n + m)) (omega arith) (omega arith) in
    let more : n + suc m ≡ suc (n + m) = add-suc n m in
    let not : (l + r.y == r.since + suc (n + m)) ≡ false =
    elim (cases_Bool (l + r.y == r.since + suc (n + m))) [
      | inl due ↦ absurd (omega (arith, within, eqb-true (l + r.y) (r.since + suc (n + m)) due))
      | inr not ↦ not
    ] in
    rw more (last_of_some r asks serves (suc (n + m)) l wide next
    (next_kept r asks serves (n + m) l now next before.last not))
