-- One more tick of the recomputed server.
use Rattle.std.proofs.Common.{◌≡◌, ℕ, ◌+◌, ◌-◌, ◌<◌, ◌≤◌, zero, suc, refl, sym, arith, inl, inr, ◌∙◌, Bool}
use Rattle.std.proofs.Common.{true, false, Option, Some, None}
use Rattle.std.specs.Prelude.{◌&&◌, if◌then◌else◌}
use Rattle.std.proofs.lemmas.Bool.{cases_Bool}
use Rattle.std.proofs.lemmas.Bool.Decides.{nat_tests}
use Rattle.hls_book.specs.Servers.{charged, replenished, is_due}
use Rattle.hls_chron.specs.Ticks.{one_if}
use Rattle.hls_chron.specs.Ticks.{count}
use Rattle.hls_chron.proofs.CountLaws.{count-none, count-push}
use Rattle.hls_kinds.specs.declared.reservations.Reservation.{Reservation}
use Rattle.hls_chron.specs.Parts.{all_parts, parts}
use Rattle.hls_kinds.specs.Reservations.{deadline_after, budget_after, is_replenished}
use Rattle.hls_kinds.specs.Reservations.{last_replenished}
use Rattle.hls_kinds.specs.Reservations.{asked_before}
use Rattle.hls_book.specs.Recomputed.{server_before, server_within}
use Rattle.hls_book.proofs.Replenishing.{replenished-off, replenished-set, replenished-kept}

abbrev pub IsRenewed : Reservation → (asks serves : ℕ → Bool) → ℕ → Bool
IsRenewed s asks serves n = is_replenished s asks serves n (last_replenished s asks serves n)

pub last-zero : (s : Reservation) (asks serves : ℕ → Bool) → last_replenished s asks serves 0 ≡ None
unfolding last_replenished
last-zero s asks serves = refl

pub last-set : (s : Reservation) (asks serves : ℕ → Bool) (n : ℕ) → IsRenewed s asks serves n ≡ true
    → last_replenished s asks serves (suc n) ≡ Some (s.since + n)
unfolding last_replenished
last-set s asks serves n is = rw is

pub last-kept : (s : Reservation) (asks serves : ℕ → Bool) (n : ℕ) → IsRenewed s asks serves n ≡ false
    → last_replenished s asks serves (suc n) ≡ last_replenished s asks serves n
unfolding last_replenished
last-kept s asks serves n is = rw is

-- the last replenishment is a tick since and before
pub last_before : (s : Reservation) (asks serves : ℕ → Bool) (n m : ℕ) → last_replenished s asks serves n
    ≡ Some m → m < s.since + n
last_before s asks serves zero m e = let z = last-zero s asks serves in absurd (cc)
last_before s asks serves (suc n) m e = elim (cases_Bool (IsRenewed s asks serves n)) [
  | inl is ↦ let here = last-set s asks serves n is in let same : m ≡ s.since + n = cc in omega arith
  | inr not ↦ let here = last-kept s asks serves n not in let before = last_before s asks serves n m (cc) in
      omega arith
]

pub last_since : (s : Reservation) (asks serves : ℕ → Bool) (n m : ℕ) → last_replenished s asks serves n
    ≡ Some m → s.since ≤ m
last_since s asks serves zero m e = let z = last-zero s asks serves in absurd (cc)
last_since s asks serves (suc n) m e = elim (cases_Bool (IsRenewed s asks serves n)) [
  | inl is ↦ let here = last-set s asks serves n is in let same : m ≡ s.since + n = cc in omega arith
  | inr not ↦ let here = last-kept s asks serves n not in last_since s asks serves n m (cc)
]

-- the first time it asks it is replenished
pub replenished-none : (s : Reservation) (asks serves : ℕ → Bool) (n : ℕ)
    → is_replenished s asks serves n None ≡ asks (s.since + n)
replenished-none s asks serves n = elim (asks (s.since + n)) as (λ v. (v && true) ≡ v) [
  | true ↦ refl
  | false ↦
      refl
]

-- in a tick in which it does not ask it is not
pub replenished-silent : (s : Reservation) (asks serves : ℕ → Bool) (n : ℕ) (last : Option ℕ)
    → asks (s.since + n) ≡ false → is_replenished s asks serves n last ≡ false
replenished-silent s asks serves n last off = rw off

-- where it was not replenished yet, it did not ask
pub none_asked : (s : Reservation) (asks serves : ℕ → Bool) (n : ℕ) → last_replenished s asks serves n ≡ None
    → asked_before s asks n ≡ false
none_asked s asks serves zero e = refl
none_asked s asks serves (suc n) e = elim (cases_Bool (IsRenewed s asks serves n)) [
  | inl is ↦ let here = last-set s asks serves n is in absurd (cc)
  | inr not ↦
      let here : last_replenished s asks serves n ≡ None = sym (last-kept s asks serves n not) ∙ e in
      sym (replenished-none s asks serves n) ∙ (rw here at not)
]

-- the two tests of a replenishment agree
due_some : (s : Reservation) (asks serves : ℕ → Bool) (n m : ℕ) → 0 < n → asks (s.since + n) ≡ true
    → is_replenished s asks serves n (Some m) ≡ is_due all_parts
    (record {
      x = s.x;
      y = s.y;
      parts = parts s.x s.y;
      budget = budget_after s serves (Some m) (s.since + n);
      deadline = deadline_after s (Some m);
      asked = asked_before s asks n;
    }) (s.since + n)
unfolding is_due
due_some s asks serves zero m some on = absurd (omega (arith, some))
due_some s asks serves (suc n) m some on = let before : s.since + suc n - 1 ≡ s.since + n = omega arith in
    rw (on, before) refl

due_first : (s : Reservation) (serves : ℕ → Bool) (n : ℕ)
    → is_due all_parts (record {
      x = s.x;
      y = s.y;
      parts = parts s.x s.y;
      budget = s.x;
      deadline = s.since;
      asked = false;
    }) (s.since + n) ≡ true
unfolding is_due
due_first s serves n = grind (arith, nat_tests)

due_case : (s : Reservation) (asks serves : ℕ → Bool) (n : ℕ) (last : Option ℕ) → asks (s.since + n) ≡ true
    → (last ≡ None → asked_before s asks n ≡ false) → ((m : ℕ) → last ≡ Some m → 0 < n)
    → is_replenished s asks serves n last ≡ is_due all_parts
    (record {
      x = s.x;
      y = s.y;
      parts = parts s.x s.y;
      budget = budget_after s serves last (s.since + n);
      deadline = deadline_after s last;
      asked = asked_before s asks n;
    }) (s.since + n)
due_case s asks serves n None on first some = rw (replenished-none s asks serves n, on, first refl)
    (sym (due_first s serves n))
due_case s asks serves n (Some m) on first some = due_some s asks serves n m (some m refl) on

last_later : (s : Reservation) (asks serves : ℕ → Bool) (n m : ℕ) → last_replenished s asks serves n ≡ Some m
    → 0 < n
last_later s asks serves n m e =
    omega (arith, last_before s asks serves n m e, last_since s asks serves n m e)

pub due_same : (s : Reservation) (asks serves : ℕ → Bool) (n : ℕ) → asks (s.since + n) ≡ true
    → IsRenewed s asks serves n ≡ is_due all_parts (server_before s asks serves n) (s.since + n)
due_same s asks serves n on = due_case s asks serves n (last_replenished s asks serves n) on
    (none_asked s asks serves n) (last_later s asks serves n)

pub count_past : (serves : ℕ → Bool) (t : ℕ) → count serves t (t - t) ≡ 0
count_past serves t = let e : t - t ≡ 0 = omega arith in rw e (count-none serves t)

pub count_more : (serves : ℕ → Bool) (m t : ℕ) → m ≤ t → count serves m (t + 1 - m) ≡ count serves m
    (t - m) + one_if (serves t)
count_more serves m t le =
    let step : t + 1 - m ≡ suc (t - m) = omega arith in
    let last : m + (t - m) ≡ t = omega arith in
    rw (step, count-push serves m (t - m), last) refl

budget_more : (s : Reservation) (serves : ℕ → Bool) (last : Option ℕ) (t : ℕ)
    → (last ≡ None → serves t ≡ false) → ((m : ℕ) → last ≡ Some m → m ≤ t)
    → budget_after s serves last (t + 1) ≡ budget_after s serves last t - one_if (serves t)
budget_more s serves None t idle before = rw (idle refl) (omega arith)
budget_more s serves (Some m) t idle before = omega (arith, count_more serves m t (before m refl))

-- the replenishment of a tick, recomputed
pub within_is : (s : Reservation) (asks serves : ℕ → Bool) (n : ℕ)
    → replenished all_parts (server_before s asks serves n) (asks (s.since + n)) (s.since + n)
    ≡ server_within s asks serves n
within_is s asks serves n = elim (cases_Bool (asks (s.since + n))) [
  | inr off ↦
      let last =
      last-kept s asks serves n (replenished-silent s asks serves n (last_replenished s asks serves n)
      off) in
      rw (off, replenished-off all_parts (server_before s asks serves n) (s.since + n), last) refl
  | inl on ↦ elim (cases_Bool (IsRenewed s asks serves n)) [
    | inl is ↦
        let last = last-set s asks serves n is in
        let set : is_due all_parts (server_before s asks serves n) (s.since + n) ≡ true =
        sym (due_same s asks serves n on) ∙ is in
        let full : s.x - count serves (s.since + n) (s.since + n - (s.since + n)) ≡ s.x =
        omega (arith, count_past serves (s.since + n)) in
        rw (on, replenished-set all_parts (server_before s asks serves n) (s.since + n) set, last, full) refl
    | inr not ↦
        let last = last-kept s asks serves n not in
        let kept : is_due all_parts (server_before s asks serves n) (s.since + n) ≡ false =
        sym (due_same s asks serves n on) ∙ not in
        rw (on, replenished-kept all_parts (server_before s asks serves n) (s.since + n) kept, last) refl
  ]
]

-- and the tick after them
pub before_is : (s : Reservation) (asks serves : ℕ → Bool) (n : ℕ)
    → (serves (s.since + n) ≡ true → asks (s.since + n) ≡ true) → server_before s asks serves (suc n)
    ≡ (if serves (s.since + n) then charged (server_within s asks serves n) else server_within s asks serves
    n)
before_is s asks serves n sure =
    let next : s.since + suc n ≡ s.since + n + 1 = omega arith in
    let idle : last_replenished s asks serves (suc n) ≡ None → serves (s.since + n) ≡ false =
    λ e. elim (cases_Bool (serves (s.since + n))) [
      | inl is ↦ let asked = sure is in let silent = none_asked s asks serves (suc n) e in absurd (cc)
      | inr not ↦ not
    ] in
    let more = budget_more s serves (last_replenished s asks serves (suc n)) (s.since + n) idle
    (λ m e. let b = last_before s asks serves (suc n) m e in omega arith) in
    elim (cases_Bool (serves (s.since + n))) [
      | inl is ↦ rw (next, more, is) refl
      | inr not ↦ let none : budget_after s serves (last_replenished s asks serves (suc n)) (s.since + n) - 0
          ≡ budget_after s serves (last_replenished s asks serves (suc n)) (s.since + n) = omega arith in
          rw (next, more, not, none) refl
    ]
