-- Jobs are in time: of a seat that was replenished where each is released, each tick leaves the budget room.
use Rattle.std.proofs.Common.{◌≡◌, ℕ, ◌+◌, ◌*◌, ◌-◌, ◌<◌, ◌≤◌, zero, suc, refl, arith, inl, inr, ap, ◌∙◌, Bool}
use Rattle.std.proofs.Common.{true}
use Rattle.std.proofs.lemmas.Bool.{cases_Bool, cases_lt}
use Rattle.hls_chron.specs.Ticks.{count}
use Rattle.hls_chron.proofs.CountLaws.{count-within, count-add, one_if-le}
use Rattle.std.proofs.Math.Nat.{mul-le-mul_right, mul-add, suc-mul}
use Rattle.hls_chron.specs.declared.plain.Config.TheVariants.{Edf}
use Rattle.hls_chron.specs.declared.plain.Terms.TheVariants.{Res}
use Rattle.hls_chron.specs.Ledger.{Ledger, now_of}
use Rattle.hls_chron.specs.Seats.{asked, served}
use Rattle.hls_kinds.specs.declared.reservations.Reservation.{Reservation}
use Rattle.hls_kinds.specs.declared.tenant.Tenant.TheVariants.{Sits}
use Rattle.hls_kinds.specs.Tenants.{tenant_at}
use Rattle.hls_kinds.specs.Made.{IsMade}
use Rattle.hls_book.specs.Books.{IsGiven}
use Rattle.hls_book.specs.Stays.{EachTick}
use Rattle.hls_book.proofs.Deadlines.{count_more}
use Rattle.hls_book.proofs.Books.{reservations_made}
use Rattle.hls_legal_jobs.specs.Jobs.{IsJobOf, AsksForJobs, AsksFor, AreInTime}
use Rattle.hls_legal_jobs.proofs.Releases.{IsHeld, State, Rests, Holds, left, state, fresh_job, next_job}

-- the job of a tick is one
same_job : (from : ℕ) (released : ℕ → Bool) (w v t : ℕ) → IsJobOf from released w t → IsJobOf from released v t → v ≡ w
same_job from released w v t one two = elim (cases_lt v w) [
  | inl before ↦
      let off = two.last w before one.past in
      let on = one.starts in
      absurd (cc)
  | inr up ↦ elim (cases_lt w v) [
    | inl after ↦
        let off = one.last v after two.past in
        let on = two.starts in
        absurd (cc)
    | inr to ↦ omega arith
  ]
]

module _ (r : Reservation) (periods : ℕ → ℕ) (from : ℕ) (released asks serves : ℕ → Bool) (now : ℕ)
    (jobs : AsksForJobs r periods from released asks serves now) (each : EachTick r asks serves now) (wide : 0 < r.x)
    (narrow : r.x ≤ r.y) where
  long : 0 < r.y
  long = omega arith

  -- periods are as long as their budgets, and what is left of each
  abbrev spare : ℕ
  spare = r.y - r.x

  spread : (k : ℕ) → k * r.y ≡ k * r.x + k * spare
  spread k =
      let split : r.y ≡ r.x + spare = omega arith in
      ap (λ (v : ℕ). k * v) split ∙ mul-add k r.x spare

  held_early : (n w j p : ℕ) → r.since + n < now → asks (r.since + n) ≡ true
      → IsHeld r periods from released asks serves n w j → count serves w (r.since + n - w) < p * r.x
      → r.since + n + 1 + p * r.x ≤ w + p * r.y + count serves w (r.since + n + 1 - w)
  held_early n w j p lt on h few =
      let past = h.past in
      let fits = left r periods from released asks serves now jobs each wide long n (w + j * r.y) lt on h.last in
      let last_tick = count_more serves (w + j * r.y) (r.since + n) past in
      let before = (count-within serves w (r.since + n - w) w (j * r.y) (omega arith) (omega arith)).less in
      let inside : suc j ≤ p = elim (cases_lt j p) [
        | inl inside ↦ inside
        | inr beyond ↦
            let over : p * r.x ≤ j * r.x = mul-le-mul_right r.x beyond in absurd (omega (arith, h.had))
      ] in
      let length : r.since + n + 1 - w ≡ j * r.y + (r.since + n + 1 - (w + j * r.y)) = omega arith in
      let both : count serves w (r.since + n + 1 - w)
      ≡ count serves w (j * r.y) + count serves (w + j * r.y) (r.since + n + 1 - (w + j * r.y)) =
      rw length (count-add serves w (j * r.y) (r.since + n + 1 - (w + j * r.y))) in
      let more : suc j * spare ≤ p * spare = mul-le-mul_right spare inside in
      let one = spread j in
      let all = spread p in
      let next : suc j * spare ≡ j * spare + spare = suc-mul j spare in
      let split : r.y ≡ r.x + spare = omega arith in
      omega (arith, h.had)

  early_by : (n w p : ℕ) → r.since + n < now → IsJobOf from released w (r.since + n) → asks (r.since + n) ≡ true
      → count serves w (r.since + n - w) < p * r.x → State r periods from released asks serves n
      → r.since + n + 1 + p * r.x ≤ w + p * r.y + count serves w (r.since + n + 1 - w)
  early_by n w p lt job on few (Rests off old) = absurd (cc)
  early_by n w p lt job on few (Holds v j h) =
      let same : v ≡ w = same_job from released w v (r.since + n) job h.job in
      held_early n w j p lt on (rw same at h) few

  early : (w t p : ℕ) → t < now → IsJobOf from released w t → asks t ≡ true → count serves w (t - w) < p * r.x
      → t + 1 + p * r.x ≤ w + p * r.y + count serves w (t + 1 - w)
  early w t p lt job on few =
      let n : ℕ = t - r.since in
      let at : r.since + n ≡ t = omega (arith, job.since, job.past, jobs.since) in
      rw at at (early_by n w p (omega arith) (rw at job) (rw at on) (rw at few)
      (state r periods from released asks serves now jobs each wide long n (omega (arith, job.since, job.past))
      (omega arith)))

  soon : (w t : ℕ) → t < now → IsJobOf from released w t → asks t ≡ true → t < w + periods w * r.y
  soon w t lt job on =
      let few = jobs.small w t lt job on in
      omega (arith, early w t (periods w) lt job on few, count_more serves w t job.past, one_if-le (serves t))

  -- the seat asks for jobs alone
  known_case : (n : ℕ) → from ≤ r.since + n → r.since + n < now → asks (r.since + n) ≡ true
      → (w : ℕ) × IsJobOf from released w (r.since + n)
  known_case zero le lt on = elim (cases_Bool (released (r.since + 0))) [
    | inl is ↦
        (r.since + 0, fresh_job r periods from released asks serves now jobs each wide long (r.since + 0) le is)
    | inr not ↦
        let early = (jobs.goes_on (r.since + 0) le lt on not).0 in
        let since = jobs.since in
        absurd (omega arith)
  ]
  known_case (suc m) le lt on = elim (cases_Bool (released (r.since + suc m))) [
    | inl is ↦
        (r.since + suc m, fresh_job r periods from released asks serves now jobs each wide long (r.since + suc m) le is)
    | inr not ↦
        let before : r.since + suc m - 1 ≡ r.since + m = omega arith in
        let goes = jobs.goes_on (r.since + suc m) le lt on not in
        let asked : asks (r.since + m) ≡ true = rw before at goes.1 in
        let job = known_case m (omega (arith, goes.0)) (omega arith) asked in
        (job.0, next_job r periods from released asks serves now jobs each wide long job.0 m not job.1)
  ]

  known : (t : ℕ) → from ≤ t → t < now → asks t ≡ true → (w : ℕ) × IsJobOf from released w t
  known t le lt on =
      let m : ℕ = t - r.since in
      let since = jobs.since in
      let at : r.since + m ≡ t = omega arith in
      rw at at (known_case m (omega arith) (omega arith) (rw at on))

  -- no further job is released within its periods
  lasts : (w t : ℕ) → from ≤ w → w ≤ t → t < now → t < w + periods w * r.y → released w ≡ true
      → IsJobOf from released w t
  lasts w t le past lt before is = record {
    since = le;
    past = past;
    starts = is;
    last = λ u after to. elim (cases_Bool (released u)) [
      | inl again ↦ absurd (omega (arith, jobs.apart w u le after (omega arith) is again))
      | inr not ↦ not
    ];
  }

  done_case : (w m p d : ℕ) → d ≡ p * r.y + m - p * r.x → from ≤ w → released w ≡ true → p ≤ periods w
      → m ≤ p * r.x → w + p * r.y + m ≤ now + p * r.x → AsksFor from released asks serves (w + d) w m
      → m ≤ count serves w d
  done_case w m p zero length le is within small has for_m =
      let all = spread p in omega arith
  done_case w m p (suc e) length le is within small has for_m = elim (cases_lt (count serves w e) m) [
    | inl fewer ↦
        let all = spread p in
        let more : p * r.y ≤ periods w * r.y = mul-le-mul_right r.y within in
        let job = lasts w (w + e) le (omega arith) (omega arith) (omega arith) is in
        let len : w + e - w ≡ e = omega arith in
        let on = for_m.asks_on (w + e) (omega arith) job (rw len fewer) in
        let few : count serves w (w + e - w) < p * r.x = rw len (omega arith) in
        let room = early w (w + e) p (omega arith) job on few in
        let next : w + e + 1 - w ≡ suc e = omega arith in
        let room_at : w + e + 1 + p * r.x ≤ w + p * r.y + count serves w (suc e) = rw next at room in
        omega arith
    | inr enough ↦ omega (arith, (count-within serves w (suc e) w e (omega arith) (omega arith)).less)
  ]

  pub in_time : AreInTime r periods from released asks serves now
  in_time = record {
    known = known;
    soon = soon;
    early = early;
    done = λ w m p le is within small has for_m.
        done_case w m p (p * r.y + m - p * r.x) refl le is within small has for_m;
  }

pub jobs_in_book : (b : Ledger) (slot : ℕ) (hard : Bool) (r : Reservation) (periods : ℕ → ℕ)
    (from : ℕ) (released : ℕ → Bool) → IsMade Edf b
    → IsGiven b → tenant_at b slot ≡ Sits (Res hard r.x r.y) r.since
    → AsksForJobs r periods from released (asked b slot) (served b slot) (now_of b)
    → AreInTime r periods from released (asked b slot) (served b slot) (now_of b)
jobs_in_book b slot hard r periods from released made given sits jobs =
    let kept = reservations_made b made in
    let tenant = rw sits at (kept.tenants slot) in
    in_time r periods from released (asked b slot) (served b slot) (now_of b) jobs
    (kept.each given slot hard r sits) tenant.0.0
    tenant.0.1
