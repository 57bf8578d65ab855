-- A seat that asks for jobs alone is replenished where one is released, and each period from then on while it asks.
use Rattle.std.proofs.Common.{◌≡◌, ℕ, ◌+◌, ◌*◌, ◌-◌, ◌<◌, ◌≤◌, zero, suc, refl, sym, arith, inl, inr, ◌∙◌, Bool, ap}
use Rattle.std.proofs.Common.{true, false, Option, Some, None}
use Rattle.std.specs.Prelude.{◌==◌, nat_le}
use Rattle.std.proofs.lemmas.Bool.{cases_Bool, cases_lt, cases_eq, eq-eqb, ne_eqb, le-leb}
use Rattle.std.proofs.Math.Nat.{mul-le-mul_right, suc-mul}
use Rattle.hls_chron.specs.Ticks.{one_if, count}
use Rattle.hls_chron.proofs.CountLaws.{count-add}
use Rattle.hls_kinds.specs.declared.reservations.Reservation.{Reservation}
use Rattle.hls_kinds.specs.Reservations.{is_replenished, last_replenished}
use Rattle.hls_book.specs.Stays.{EachTick}
use Rattle.hls_book.proofs.Deadlines.{last-zero, last-set, last-kept, replenished-none}
use Rattle.hls_book.proofs.Deadlines.{replenished-silent, count_more, IsRenewed, last_before, last_since}
use Rattle.hls_legal_jobs.specs.Jobs.{IsJobOf, AsksForJobs}

-- So many ticks after its seating or settling, after the replenishment of the tick, a seat has its last one from the
-- job of the tick; or it does not ask, and its deadline has come with the next tick.
pub record IsHeld (r : Reservation) (periods : ℕ → ℕ) (from : ℕ) (released asks serves : ℕ → Bool)
    (n w j : ℕ) : Type 0 where
  pub job : IsJobOf from released w (r.since + n)
  pub last : last_replenished r asks serves (suc n) ≡ Some (w + j * r.y)
  pub past : w + j * r.y ≤ r.since + n
  pub had : j * r.x ≤ count serves w (j * r.y)
  pub within : j < periods w

pub data State (r : Reservation) (periods : ℕ → ℕ) (from : ℕ) (released asks serves : ℕ → Bool) (n : ℕ) : Type 0 where
  Rests : asks (r.since + n) ≡ false
      → ((m : ℕ) → last_replenished r asks serves (suc n) ≡ Some m → m + r.y ≤ r.since + n + 1)
      → State r periods from released asks serves n
  Holds : (w j : ℕ) → IsHeld r periods from released asks serves n w j → State r periods from released asks serves n

module _ (r : Reservation) (periods : ℕ → ℕ) (from : ℕ) (released asks serves : ℕ → Bool) (now : ℕ)
    (jobs : AsksForJobs r periods from released asks serves now) (each : EachTick r asks serves now) (wide : 0 < r.x)
    (long : 0 < r.y) where
  -- a tick in which it asks leaves no more budget than there are ticks to the deadline
  pub left : (n m : ℕ) → r.since + n < now → asks (r.since + n) ≡ true
      → last_replenished r asks serves (suc n) ≡ Some m
      → r.x - count serves m (r.since + n - m) - one_if (serves (r.since + n)) + (r.since + n + 1) ≤ m + r.y
  left n m lt on last =
      let fits = each.fits n lt on in
      rw last at fits

  pub fresh_job : (t : ℕ) → from ≤ t → released t ≡ true → IsJobOf from released t t
  fresh_job t le is = record {
    since = le;
    past = omega arith;
    starts = is;
    last = λ u after to. absurd (omega arith);
  }

  pub next_job : (w n : ℕ) → released (r.since + suc n) ≡ false → IsJobOf from released w (r.since + n)
      → IsJobOf from released w (r.since + suc n)
  next_job w n not job = record {
    since = job.since;
    past = omega (arith, job.past);
    starts = job.starts;
    last = λ u after to. elim (cases_lt u (r.since + suc n)) [
      | inl earlier ↦ job.last u after (omega arith)
      | inr later ↦ let there : r.since + suc n ≡ u = omega arith in rw there at not
    ];
  }

  -- a release
  fresh : (n : ℕ) → from ≤ r.since + n → r.since + n < now → released (r.since + n) ≡ true
      → is_replenished r asks serves n (last_replenished r asks serves n) ≡ true
      → State r periods from released asks serves n
  fresh n le lt is set =
      let at : r.since + n + 0 * r.y ≡ r.since + n = omega arith in
      let job = fresh_job (r.since + n) (omega arith) is in
      let few = jobs.small (r.since + n) (r.since + n) lt job (jobs.begins (r.since + n) (omega arith) lt is) in
      let some : 0 < periods (r.since + n) = elim (cases_lt 0 (periods (r.since + n))) [
        | inl pos ↦ pos
        | inr none ↦ let no : periods (r.since + n) * r.x ≤ 0 * r.x = mul-le-mul_right r.x none in absurd (omega arith)
      ] in
      Holds (r.since + n) 0 (record {
        job = job;
        last = last-set r asks serves n set ∙ ap Some (sym at);
        past = omega arith;
        had = omega arith;
        within = some;
      })

  -- a tick that is no replenishment
  silent : (n : ℕ) → asks (r.since + n) ≡ false
      → last_replenished r asks serves (suc n) ≡ last_replenished r asks serves n
  silent n off = last-kept r asks serves n (replenished-silent r asks serves n (last_replenished r asks serves n) off)

  goes : (n w j : ℕ) → released (r.since + suc n) ≡ false
      → last_replenished r asks serves (suc (suc n)) ≡ last_replenished r asks serves (suc n)
      → IsHeld r periods from released asks serves n w j → State r periods from released asks serves (suc n)
  goes n w j not kept h = Holds w j (record {
    job = next_job w n not h.job;
    last = kept ∙ h.last;
    past = omega (arith, h.past);
    had = h.had;
    within = h.within;
  })

  -- the next release after a job
  release_after : (n w j : ℕ) → r.since + suc n < now → released (r.since + suc n) ≡ true
      → IsHeld r periods from released asks serves n w j
      → is_replenished r asks serves (suc n) (Some (w + j * r.y)) ≡ true
  release_after n w j lt is h =
      let on = jobs.begins (r.since + suc n) (omega (arith, h.job.since, h.job.past)) lt is in
      let before : r.since + suc n - 1 ≡ r.since + n = omega arith in
      let past = h.job.past in
      let apart = jobs.apart w (r.since + suc n) h.job.since (omega arith) lt h.job.starts is in
      let more : suc j * r.y ≤ periods w * r.y = mul-le-mul_right r.y h.within in
      let next : suc j * r.y ≡ j * r.y + r.y = suc-mul j r.y in
      let come : w + j * r.y + r.y ≤ r.since + suc n = omega arith in
      elim (cases_Bool (asks (r.since + n))) [
        | inl asked ↦
            let fits = left n (w + j * r.y) (omega arith) asked h.last in
            let same : w + j * r.y + r.y ≡ r.since + suc n = omega arith in
            let due : (w + j * r.y + r.y == r.since + suc n) ≡ true =
            eq-eqb (w + j * r.y + r.y) (r.since + suc n) same in
            rw (on, before, asked, due) refl
        | inr slept ↦
            let due : nat_le (w + j * r.y + r.y) (r.since + suc n) ≡ true =
            le-leb (w + j * r.y + r.y) (r.since + suc n) come in
            rw (on, before, slept, due) refl
      ]

  -- a job asks on, to the end of a period or not
  asks_after : (n w j : ℕ) → r.since + suc n < now → released (r.since + suc n) ≡ false
      → asks (r.since + suc n) ≡ true → asks (r.since + n) ≡ true → IsHeld r periods from released asks serves n w j
      → State r periods from released asks serves (suc n)
  asks_after n w j lt not on asked h =
      let before : r.since + suc n - 1 ≡ r.since + n = omega arith in
      let past = h.job.past in
      let in_it = h.past in
      let fits = left n (w + j * r.y) (omega arith) asked h.last in
      let next : suc j * r.y ≡ j * r.y + r.y = suc-mul j r.y in
      let budgets : suc j * r.x ≡ j * r.x + r.x = suc-mul j r.x in
      elim (cases_eq (w + j * r.y + r.y) (r.since + suc n)) [
        | inl same ↦
            let due : (w + j * r.y + r.y == r.since + suc n) ≡ true =
            eq-eqb (w + j * r.y + r.y) (r.since + suc n) same in
            let renewed : is_replenished r asks serves (suc n) (Some (w + j * r.y)) ≡ true =
            rw (on, before, asked, due) refl in
            let set = last-set r asks serves (suc n) (rw h.last renewed) in
            let last_tick : count serves (w + j * r.y) (r.since + n + 1 - (w + j * r.y))
            ≡ count serves (w + j * r.y) (r.since + n - (w + j * r.y)) + one_if (serves (r.since + n)) =
            count_more serves (w + j * r.y) (r.since + n) in_it in
            let whole : r.since + n + 1 - (w + j * r.y) ≡ r.y = omega arith in
            let used : r.x ≤ count serves (w + j * r.y) r.y =
            (let used_up : r.x ≤ count serves (w + j * r.y) (r.since + n + 1 - (w + j * r.y)) = omega arith in
            rw whole at used_up) in
            let both = count-add serves w (j * r.y) r.y in
            let job = next_job w n not h.job in
            let few = jobs.small w (r.since + suc n) lt job on in
            let length : r.since + suc n - w ≡ j * r.y + r.y = omega arith in
            let fewer : count serves w (j * r.y + r.y) < periods w * r.x = rw length at few in
            let had : suc j * r.x ≤ count serves w (suc j * r.y) = rw next (omega (arith, h.had)) in
            let inside : suc j < periods w = elim (cases_lt (suc j) (periods w)) [
              | inl inside ↦ inside
              | inr beyond ↦
                  let over : periods w * r.x ≤ suc j * r.x = mul-le-mul_right r.x beyond in
                  absurd (omega (arith, h.had))
            ] in
            Holds w (suc j) (record {
              job = job;
              last = set ∙ ap Some (let here : r.since + suc n ≡ w + suc j * r.y = omega arith in here);
              past = omega arith;
              had = had;
              within = inside;
            })
        | inr ne ↦
            let due : (w + j * r.y + r.y == r.since + suc n) ≡ false =
            ne_eqb (w + j * r.y + r.y) (r.since + suc n) ne in
            let keeps : is_replenished r asks serves (suc n) (Some (w + j * r.y)) ≡ false =
            rw (on, before, asked, due) refl in
            goes n w j not (last-kept r asks serves (suc n) (rw h.last keeps)) h
      ]

  asked_there : (n : ℕ) → from ≤ r.since + n → r.since + suc n < now → released (r.since + suc n) ≡ false
      → asks (r.since + suc n) ≡ true → asks (r.since + n) ≡ true
  asked_there n le lt not on =
      let before : r.since + suc n - 1 ≡ r.since + n = omega arith in
      rw before at ((jobs.goes_on (r.since + suc n) (omega arith) lt on not).1)

  -- a seat whose deadline has come is replenished as it wakes
  wake_due : (n : ℕ) (last : Option ℕ) → last_replenished r asks serves n ≡ last
      → ((m : ℕ) → last ≡ Some m → m + r.y ≤ r.since + n) → (0 < n → asks (r.since + n - 1) ≡ false)
      → asks (r.since + n) ≡ true → is_replenished r asks serves n last ≡ true
  wake_due n None e come slept on = replenished-none r asks serves n ∙ on
  wake_due zero (Some m) e come slept on = let z = last-zero r asks serves in absurd (cc)
  wake_due (suc n) (Some m) e come slept on =
      let off = slept (omega arith) in
      let due : nat_le (m + r.y) (r.since + suc n) ≡ true = le-leb (m + r.y) (r.since + suc n) (come m refl) in
      rw (on, off, due) refl

  -- it was replenished while it asked
  replenished_asks : (n m : ℕ) → last_replenished r asks serves n ≡ Some m → asks m ≡ true
  replenished_asks zero m e = let z = last-zero r asks serves in absurd (cc)
  replenished_asks (suc n) m e = elim (cases_Bool (IsRenewed r asks serves n)) [
    | inl is ↦
        let here = last-set r asks serves n is in
        let same : r.since + n ≡ m = cc in
        elim (cases_Bool (asks (r.since + n))) [
          | inl on ↦ sym (ap asks same) ∙ on
          | inr off ↦
              let no = replenished-silent r asks serves n (last_replenished r asks serves n) off in absurd (cc)
        ]
    | inr not ↦ replenished_asks n m (sym (last-kept r asks serves n not) ∙ e)
  ]

  -- and that was long before, where it has rested
  rested_last : (n m : ℕ) → r.since + n ≡ from → r.since + n < now → last_replenished r asks serves n ≡ Some m
      → m + r.y < from
  rested_last n m at lt e = elim (cases_lt (m + r.y) from) [
    | inl before ↦ before
    | inr after ↦
        let past = last_before r asks serves n m e in
        let off = jobs.rested m (last_since r asks serves n m e) (omega arith) (omega arith) after in
        let on = replenished_asks n m e in
        absurd (cc)
  ]

  start : (n : ℕ) → r.since + n ≡ from → r.since + n < now → State r periods from released asks serves n
  start n at lt = elim (cases_Bool (released (r.since + n))) [
    | inl is ↦
        fresh n (omega arith) lt is
        (wake_due n (last_replenished r asks serves n) refl
        (λ m e. let before = rested_last n m at lt e in omega arith)
        (λ some. jobs.rested (r.since + n - 1) (omega arith) (omega arith) (omega arith) (omega arith))
        (jobs.begins (r.since + n) (omega arith) lt is))
    | inr not ↦ elim (cases_Bool (asks (r.since + n))) [
      | inl on ↦ absurd (omega (arith, (jobs.goes_on (r.since + n) (omega arith) lt on not).0, at))
      | inr off ↦ Rests off (λ m e. let before = rested_last n m at lt (sym (silent n off) ∙ e) in omega arith)
    ]
  ]

  step : (n : ℕ) → from ≤ r.since + n → r.since + suc n < now → State r periods from released asks serves n
      → State r periods from released asks serves (suc n)
  step n le lt (Rests off old) = elim (cases_Bool (released (r.since + suc n))) [
    | inl is ↦
        let before : r.since + suc n - 1 ≡ r.since + n = omega arith in
        fresh (suc n) (omega arith) lt is
        (wake_due (suc n) (last_replenished r asks serves (suc n)) refl
        (λ m e. let come = old m e in omega arith) (λ some. rw before off)
        (jobs.begins (r.since + suc n) (omega arith) lt is))
    | inr not ↦ elim (cases_Bool (asks (r.since + suc n))) [
      | inl on ↦ let asked = asked_there n le lt not on in absurd (cc)
      | inr idle ↦ Rests idle (λ m e. let come = old m (sym (silent (suc n) idle) ∙ e) in omega arith)
    ]
  ]
  step n le lt (Holds w j h) = elim (cases_Bool (released (r.since + suc n))) [
    | inl is ↦ fresh (suc n) (omega arith) lt is (rw h.last (release_after n w j lt is h))
    | inr not ↦ elim (cases_Bool (asks (r.since + suc n))) [
      | inl on ↦ asks_after n w j lt not on (asked_there n le lt not on) h
      | inr off ↦ goes n w j not (silent (suc n) off) h
    ]
  ]

  pub state : (n : ℕ) → from ≤ r.since + n → r.since + n < now → State r periods from released asks serves n
  state zero le lt = let since = jobs.since in start 0 (omega arith) lt
  state (suc n) le lt = elim (cases_lt (r.since + n) from) [
    | inl before ↦ start (suc n) (omega arith) lt
    | inr after ↦ step n after lt (state n after (omega arith))
  ]
