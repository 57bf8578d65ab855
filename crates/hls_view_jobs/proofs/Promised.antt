-- In how many ready ticks in a row a guarantee has so many served.
use Rattle.std.proofs.Common.{◌≡◌, ℕ, zero, suc, ◌+◌, ◌*◌, ◌-◌, ◌/◌, ◌%◌, ◌<◌, ◌≤◌, ap, ◌∙◌, sym, arith, inl, inr, Bool}
use Rattle.std.proofs.Common.{refl}
use Rattle.std.specs.Prelude.{Some, min}
use Rattle.std.proofs.lemmas.Bool.{cases_lt}
use Rattle.std.proofs.Math.Nat.{mul-le-mul_right, suc-mul, add-mul, lt-div-mul-add, mul_comm, mul-pos}
use Rattle.hls_chron.specs.Ticks.{count}
use Rattle.hls_chron.proofs.CountLaws.{count-within, count-add}
use Rattle.hls_audit_spans.proofs.Counts.{count_on}
use Rattle.hls_guarantee.specs.Satisfaction.{IsReserved, InPiece, Satisfies}
use Rattle.hls_guarantee.specs.declared.Guarantee.{Guarantee}
use Rattle.hls_guarantee.specs.declared.Guarantee.TheVariants as kept
use Rattle.hls_guarantee.specs.Limits.{IsValid}
use Rattle.hls_text.specs.Lines.{Text}
use Rattle.hls_report_text.specs.Content.{Content}
use Rattle.hls_legal.specs.declared.stay.Stay.{Stay}
use Rattle.hls_legal.specs.Schedule.{is_served}
use Rattle.hls_view_jobs.specs.declared.job.Release.{Release}
use Rattle.hls_view_jobs.specs.declared.job.Fate.{Fate}
use Rattle.hls_view_jobs.specs.declared.job.Fate.TheVariants.{Done, Dropped, Open}
use Rattle.hls_view_jobs.specs.declared.job.Job.{Job}
use Rattle.hls_view_jobs.specs.Bounds.{promised_in}
use Rattle.hls_view_jobs.specs.Promises.{IsWithinBound}
use Rattle.hls_view_jobs.specs.Jobs.{IsFate, IsJob, until, stay_with, bound_by}

-- periods in a row, each of which has x ticks
full_have : (served : ℕ → Bool) (x y from k : ℕ)
    → ((j : ℕ) → j < k → x ≤ count served (from + j * y) y) → k * x ≤ count served from (k * y)
full_have served x y from zero each = omega arith
full_have served x y from (suc k) each =
    let rest = full_have served x y from k (λ j lt. each j (omega (arith, lt))) in
    let last = each k (omega arith) in
    let both = count-add served from (k * y) y in
    let long : suc k * y ≡ k * y + y = suc-mul k y in
    let many : suc k * x ≡ k * x + x = suc-mul k x in
    rw long (omega (arith, rest, last, both, many))

-- k full windows, and m ticks of those behind them
windows_have : (served : ℕ → Bool) (hard : Bool) (x y lo hi k m n : ℕ) → m ≤ x → y + m ≤ n + x → n ≤ y
    → lo + (k * y + n) ≤ hi
    → ((i j : ℕ) → lo ≤ i → i + j ≤ hi → j ≤ y → IsReserved hard x y j (count served i j))
    → k * x + m ≤ count served lo (k * y + n)
windows_have served hard x y lo hi k m n small long short within parts =
    let each : (j : ℕ) → j < k → x ≤ count served (lo + j * y) y = λ j lt.
    let next : suc j * y ≡ j * y + y = suc-mul j y in
    let most : suc j * y ≤ k * y = mul-le-mul_right y lt in
    let part = parts (lo + j * y) y (omega arith) (omega (arith, next, most, within)) (omega arith) in
    let enough = part.enough in
    omega (arith, enough) in
    let full = full_have served x y lo k each in
    let rest = parts (lo + k * y) n (omega arith) (omega (arith, within)) short in
    let enough = rest.enough in
    let both = count-add served lo (k * y) n in
    omega (arith, full, enough, both, long)

-- the first cut from a tick on
pub record IsCutFrom (e y lo : ℕ) : Type 0 where
  pub cut : ℕ
  pub low : lo ≤ e + cut * y
  pub high : e + cut * y < lo + y

first_cut : (e y lo : ℕ) → e < y → IsCutFrom e y lo
first_cut e y zero lt = record { cut = 0; low = omega arith; high = omega arith }
first_cut e y (suc lo) lt =
    let before = first_cut e y lo lt in
    let next : suc before.cut * y ≡ before.cut * y + y = suc-mul before.cut y in
    elim (cases_lt lo (e + before.cut * y)) [
      | inl later ↦ record { cut = before.cut; low = later; high = omega (arith, before.high) }
      | inr here ↦ record {
        cut = suc before.cut;
        low = omega (arith, before.low);
        high = omega (arith, before.low);
      }
    ]

-- piece number j behind a cut
piece_at : (e y c cut j n : ℕ) → c ≡ e + cut * y → n ≤ y → InPiece e y (c + j * y) n
piece_at e y c cut j n is short =
    let times : (cut + suc j) * y ≡ cut * y + suc j * y = add-mul cut (suc j) y in
    let next : suc j * y ≡ j * y + y = suc-mul j y in
    record {
      cut = cut + suc j;
      starts = omega (arith, is, times, next);
      ends = omega (arith, is, times, next, short);
    }

-- or all but the first k - 1 of them, where the first cut lies behind n ticks
pieces_late : (served : ℕ → Bool) (hard : Bool) (x y e lo hi k m n cut : ℕ) → e < y → m ≤ x → x ≤ y
    → 2 * y + m ≤ n + 2 * x → lo + (k * y + n) ≤ hi
    → ((i j : ℕ) → lo ≤ i → i + j ≤ hi → InPiece e y i j → IsReserved hard x y j (count served i j))
    → lo ≤ e + cut * y → e + cut * y < lo + y → lo + n < e + cut * y
    → k * x + m ≤ count served lo (k * y + n)
pieces_late served hard x y e lo hi zero m n cut inside small narrow long within parts low high late =
    let only = (parts lo n (omega arith) (omega (arith, within))
    (record { cut = cut; starts = omega (arith, high); ends = omega (arith, late) })).enough in
    let same : zero * y + n ≡ n = omega arith in
    let there : count served lo (zero * y + n) ≡ count served lo n = ap (count served lo) same in
    omega (arith, only, long, narrow, there)
pieces_late served hard x y e lo hi (suc k) m n cut inside small narrow long within parts low high late =
    let c : ℕ = e + cut * y in
    let a : ℕ = c - lo in
    let b : ℕ = y + n - a in
    let all : suc k * y ≡ k * y + y = suc-mul k y in
    let many : suc k * x ≡ k * x + x = suc-mul k x in
    let one = (parts lo a (omega arith) (omega (arith, within, high, low, all))
    (record { cut = cut; starts = omega (arith, high); ends = omega (arith, low) })).enough in
    let each : (j : ℕ) → j < k → x ≤ count served (c + j * y) y = λ j lt.
    let next : suc j * y ≡ j * y + y = suc-mul j y in
    let most : suc j * y ≤ k * y = mul-le-mul_right y lt in
    let enough = (parts (c + j * y) y (omega (arith, low)) (omega (arith, next, most, within, high, all))
    (piece_at e y c cut j y refl (omega arith))).enough in
    omega (arith, enough) in
    let full = full_have served x y c k each in
    let two = (parts (c + k * y) b (omega (arith, low)) (omega (arith, within, late, low, high, all))
    (piece_at e y c cut k b refl (omega (arith, late, low)))).enough in
    let front = count-add served lo a (k * y) in
    let both = count-add served lo (a + k * y) b in
    let here : lo + a ≡ c = omega (arith, low) in
    let there : lo + (a + k * y) ≡ c + k * y = omega (arith, low) in
    let middle : count served (lo + a) (k * y) ≡ count served c (k * y) = ap (λ (i : ℕ). count served i (k * y)) here in
    let behind : count served (lo + (a + k * y)) b ≡ count served (c + k * y) b =
    ap (λ (i : ℕ). count served i b) there in
    let length : a + k * y + b ≡ suc k * y + n = omega (arith, low, high, all) in
    let whole : count served lo (a + k * y + b) ≡ count served lo (suc k * y + n) = ap (count served lo) length in
    omega (arith, one, full, two, front, both, middle, behind, whole, long, small, many, low, high)

-- k full pieces, and m ticks of those before and behind them
pieces_have : (served : ℕ → Bool) (hard : Bool) (x y e lo hi k m n : ℕ) → e < y → m ≤ x → x ≤ y
    → 2 * y + m ≤ n + 2 * x → lo + (k * y + n) ≤ hi
    → ((i j : ℕ) → lo ≤ i → i + j ≤ hi → InPiece e y i j → IsReserved hard x y j (count served i j))
    → k * x + m ≤ count served lo (k * y + n)
pieces_have served hard x y e lo hi k m n inside small narrow long within parts =
    let at = first_cut e y lo inside in
    let low = at.low in
    let high = at.high in
    let c : ℕ = e + at.cut * y in
    let a : ℕ = c - lo in
    let lead : InPiece e y lo a = record { cut = at.cut; starts = omega arith; ends = omega arith } in
    elim (cases_lt a (suc n)) [
      | inl early ↦
          let b : ℕ = min y (n - a) in
          let one = (parts lo a (omega arith) (omega (arith, early, within)) lead).enough in
          let each : (j : ℕ) → j < k → x ≤ count served (c + j * y) y = λ j lt.
          let next : suc j * y ≡ j * y + y = suc-mul j y in
          let most : suc j * y ≤ k * y = mul-le-mul_right y lt in
          let enough = (parts (c + j * y) y (omega arith) (omega (arith, next, most, within, early, low))
          (piece_at e y c at.cut j y refl (omega arith))).enough in
          omega (arith, enough) in
          let full = full_have served x y c k each in
          let two = (parts (c + k * y) b (omega arith) (omega (arith, within, early, low))
          (piece_at e y c at.cut k b refl (omega arith))).enough in
          let front = count-add served lo a (k * y) in
          let both = count-add served lo (a + k * y) b in
          let here : lo + a ≡ c = omega (arith, low) in
          let there : lo + (a + k * y) ≡ c + k * y = omega (arith, low) in
          let middle : count served (lo + a) (k * y) ≡ count served c (k * y) =
          ap (λ (i : ℕ). count served i (k * y)) here in
          let behind : count served (lo + (a + k * y)) b ≡ count served (c + k * y) b =
          ap (λ (i : ℕ). count served i b) there in
          let whole =
          (count-within served lo (k * y + n) lo (a + k * y + b) (omega arith) (omega (arith, early))).less in
          omega (arith, one, full, two, front, both, middle, behind, whole, long, small)
      | inr late ↦ pieces_late served hard x y e lo hi k m n at.cut inside small narrow long within parts low high
          (omega (arith, late))
    ]

-- fewer than m served in n ticks are no more than m - 1
share_has : (num den p q n m got : ℕ) → ((m - 1) * q + p) * den < num * n * q → num * n * q ≤ (got * q + p) * den
    → m ≤ got
share_has num den p q n m got has meets = elim (cases_lt got m) [
  | inr enough ↦ enough
  | inl fewer ↦
      let le : got ≤ m - 1 = omega arith in
      let times : got * q ≤ (m - 1) * q = mul-le-mul_right q le in
      let more : (got * q + p) * den ≤ ((m - 1) * q + p) * den =
      mul-le-mul_right den (let sum : got * q + p ≤ (m - 1) * q + p = omega arith in sum) in
      absurd (omega arith)
]

share_times : (num q d : ℕ) → d * (num * q) + num * q ≡ num * (d + 1) * q
share_times num q d = grind arith

-- what a promise has in so many ticks from one on
pub promise_has : (g : Guarantee) (served : ℕ → Bool) (lo hi asked bound : ℕ) → IsValid g → 1 ≤ asked
    → promised_in g asked ≡ Some bound → lo + bound ≤ hi → Satisfies g served lo hi → asked ≤ count served lo bound
promise_has kept.All served lo hi asked bound valid some is within meets =
    let same : asked ≡ bound = cc in
    let all = count_on served lo bound (λ t from to. meets t from (omega (arith, to, within))) in
    omega (arith, same, all)
promise_has kept.Null served lo hi asked bound valid some is within meets = absurd cc
promise_has (kept.Resc hard x y) served lo hi asked bound valid some is within meets =
    let one = valid.some in
    let fits = valid.fits in
    let k : ℕ = (asked - 1) / x in
    let m : ℕ = (asked - 1) % x + 1 in
    let same : k * y + (y - x) + m ≡ bound = cc in
    let parts : x * k + (asked - 1) % x ≡ asked - 1 = omega (arith, one) in
    let small : m ≤ x = omega (arith, one) in
    let swap : k * x ≡ x * k = mul_comm k x in
    let length : k * y + (y - x + m) ≡ bound = omega (arith, same) in
    let has =
    windows_have served hard x y lo hi k m (y - x + m) small (omega (arith, fits)) (omega (arith, small, fits))
    (omega (arith, length, within)) (λ i j from to short. meets i j from to short) in
    let there : count served lo (k * y + (y - x + m)) ≡ count served lo bound = ap (count served lo) length in
    omega (arith, has, there, parts, swap, some)
promise_has (kept.Resb hard x y) served lo hi asked bound valid some is within meets =
    let one = valid.some in
    let fits = valid.fits in
    let k : ℕ = (asked - 1) / x in
    let m : ℕ = (asked - 1) % x + 1 in
    let same : k * y + 2 * (y - x) + m ≡ bound = cc in
    let parts : x * k + (asked - 1) % x ≡ asked - 1 = omega (arith, one) in
    let small : m ≤ x = omega (arith, one) in
    let swap : k * x ≡ x * k = mul_comm k x in
    let length : k * y + (2 * (y - x) + m) ≡ bound = omega (arith, same) in
    let has = pieces_have served hard x y meets.0 lo hi k m (2 * (y - x) + m) meets.1 small fits (omega (arith, fits))
    (omega (arith, length, within)) meets.2 in
    let there : count served lo (k * y + (2 * (y - x) + m)) ≡ count served lo bound = ap (count served lo) length in
    omega (arith, has, there, parts, swap, some)
promise_has (kept.Psbe s d) served lo hi asked bound valid some is within meets =
    let num : ℕ = s.num in
    let q : ℕ = d.den in
    let wanted : ℕ = ((asked - 1) * q + d.num) * s.den in
    let units : 0 < num * q = mul-pos {m = num} {n = q} (omega (arith, valid.some)) (omega (arith, d.positive)) in
    let same : wanted / (num * q) + 1 ≡ bound = cc in
    let above : wanted < wanted / (num * q) * (num * q) + num * q = lt-div-mul-add units in
    let times : wanted / (num * q) * (num * q) + num * q ≡ num * (wanted / (num * q) + 1) * q =
    share_times num q (wanted / (num * q)) in
    let here : num * (wanted / (num * q) + 1) * q ≡ num * bound * q = ap (λ (n : ℕ). num * n * q) same in
    share_has num s.den d.num q bound asked (count served lo bound) (omega (arith, above, times, here))
    (meets lo bound (omega arith) within)

-- ---- of a job

count_up : (served : ℕ → Bool) (lo n more : ℕ) → n ≤ more → count served lo n ≤ count served lo more
count_up served lo n more le = (count-within served lo more lo n (omega arith) (omega (arith, le))).less

within_by : (c : Content) (name : Text) (r : Release) (job : Job) (kept : Guarantee) (bound : ℕ) (fate : Fate)
    → IsValid kept → 1 ≤ job.asked → promised_in kept job.asked ≡ Some bound
    → Satisfies kept (is_served c.stretches name) job.release (job.release + job.ticks)
    → IsFate (is_served c.stretches name) (until c.horizon r) r.next job fate → IsWithinBound bound job fate
within_by c name r job g bound (Done at) valid some is meets fate =
    elim (cases_lt bound job.ticks) [
      | inr within ↦ within
      | inl beyond ↦
          let has =
          promise_has g (is_served c.stretches name) job.release (job.release + job.ticks) job.asked bound valid some is
          (omega (arith, beyond)) meets in
          let up = count_up (is_served c.stretches name) job.release bound (job.ticks - 1) (omega (arith, beyond)) in
          let fewer = fate.fewer in
          absurd (omega (arith, has, up, fewer))
    ]
within_by c name r job g bound (Dropped by) valid some is meets fate =
    elim (cases_lt job.ticks bound) [
      | inl within ↦ within
      | inr beyond ↦
          let has =
          promise_has g (is_served c.stretches name) job.release (job.release + job.ticks) job.asked bound valid some is
          (omega (arith, beyond)) meets in
          let up = count_up (is_served c.stretches name) job.release bound job.ticks beyond in
          let fewer = fate.1.fewer in
          absurd (omega (arith, has, up, fewer))
    ]
within_by c name r job g bound Open valid some is meets fate =
    elim (cases_lt job.ticks bound) [
      | inl within ↦ within
      | inr beyond ↦
          let has =
          promise_has g (is_served c.stretches name) job.release (job.release + job.ticks) job.asked bound valid some is
          (omega (arith, beyond)) meets in
          let up = count_up (is_served c.stretches name) job.release bound job.ticks beyond in
          let fewer = fate.1.fewer in
          absurd (omega (arith, has, up, fewer))
    ]

pub job_within : (c : Content) (name : Text) (r : Release) (job : Job) (stay : Stay) (bound : ℕ) → IsValid stay.kept
    → 1 ≤ r.asked → IsJob c name r job → stay_with c name job.release job.ticks ≡ Some stay → job.bound ≡ Some bound
    → Satisfies stay.kept (is_served c.stretches name) job.release (job.release + job.ticks)
    → IsWithinBound bound job job.fate
job_within c name r job stay bound valid some is there bounded meets =
    within_by c name r job stay.kept bound job.fate valid (let asked = is.asked in omega (arith, asked, some))
    (sym (is.bound ∙ ap (bound_by job.asked) there) ∙ bounded) meets is.fate
