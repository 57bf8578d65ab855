-- Numbers of many ticks that serve one slot by turns of a quantum: the virtual time after them, and before which ticks
-- turns end.
use Rattle.std.proofs.Common.{◌≡◌, ◌≢◌, ℕ, zero, suc, ◌+◌, ◌-◌, ◌*◌, ◌/◌, ◌%◌, ◌<◌, ◌≤◌}
use Rattle.std.proofs.Common.{refl, sym, ap, ◌∙◌, arith, inl, inr}
use Rattle.std.specs.Prelude.{if◌then◌else◌, not, ◌==◌, nat_lt}
use Rattle.std.proofs.lemmas.Bool.{cases_lt, cases_eq, eq-eqb, ne_eqb, lt-ltb, le-ltb}
use Rattle.std.proofs.Math.Nat.{mod-eq_of_lt, mod-lt, mod-add-div', mul-le-mul_right, suc-mul, le-div_iff_mul-le}
use Rattle.std.proofs.Math.Nat.{mod_self}
use Rattle.hls_kinds.specs.Stands.{turn_end}
use Rattle.hls_box.proofs.Turning.{one_more}
use Rattle.hls_sfq.specs.Changes.{since_begun}

-- the virtual time after k ticks that serve a slot of this start tag and step
abbrev pub begun_time : (quantum had time start step k : ℕ) → ℕ
begun_time quantum had time start step k =
    if nat_lt (since_begun quantum had k) k then start + (k - 1 - since_begun quantum had k) * step else time

-- and with none
abbrev pub time_in : (quantum had time start step k : ℕ) → ℕ
time_in quantum had time start step zero = time
time_in quantum had time start step (suc k) = begun_time quantum had time start step (suc k)

module _ (quantum had time start step : ℕ) (some : 0 < quantum) (few : had < quantum) (grows : time ≤ start) where
  below_by : (since k : ℕ) → (if nat_lt since k then start + (k - 1 - since) * step else time) ≤ start + k * step
  below_by since k = elim (cases_lt since k) [
    | inl lt ↦
        let le = mul-le-mul_right step (let le : k - 1 - since ≤ k = omega arith in le) in
        rw (lt-ltb since k lt) (omega (arith, le))
    | inr ge ↦ rw (le-ltb since k ge) (omega (arith, grows))
  ]

  -- not past the start tag
  pub time_below : (k : ℕ) → time_in quantum had time start step k ≤ start + k * step
  time_below zero = omega (arith, grows)
  time_below (suc k) = below_by (since_begun quantum had (suc k)) (suc k)

  begins_next : (k : ℕ) → (had + k) % quantum ≡ 0
      → start + k * step ≡ begun_time quantum had time start step (suc k)
  begins_next k none =
      let at : had + suc k - 1 ≡ had + k = omega arith in
      let since : since_begun quantum had (suc k) ≡ 0 = ap (λ n. n % quantum) at ∙ none in
      let left : suc k - 1 - 0 ≡ k = omega arith in
      rw since (rw (lt-ltb 0 (suc k) (omega arith), left) refl)

  -- the number of a tick in its turn is one more than that of the tick before
  one_later : (n : ℕ) → (n + 1) % quantum ≢ 0 → (n + 1) % quantum ≡ n % quantum + 1
  one_later n apart =
      let lt : n % quantum < quantum = mod-lt n some in
      elim (cases_eq (n % quantum + 1) quantum) [
        | inl all ↦ absurd (apart (sym (one_more n quantum) ∙ ap (λ m. m % quantum) all ∙ mod_self quantum))
        | inr less ↦ sym (one_more n quantum) ∙ mod-eq_of_lt (let small : n % quantum + 1 < quantum =
            omega (arith, lt, less) in small)
      ]

  same_by : (since now k : ℕ) → now ≡ since + 1
      → (if nat_lt since (suc k) then start + (suc k - 1 - since) * step else time)
      ≡ (if nat_lt now (suc (suc k)) then start + (suc (suc k) - 1 - now) * step else time)
  same_by since now k is = elim (cases_lt since (suc k)) [
    | inl lt ↦
        let left : suc (suc k) - 1 - now ≡ suc k - 1 - since = omega (arith, is) in
        rw (lt-ltb since (suc k) lt, lt-ltb now (suc (suc k)) (omega (arith, lt, is)), left) refl
    | inr ge ↦ rw (le-ltb since (suc k) ge, le-ltb now (suc (suc k)) (omega (arith, ge, is))) refl
  ]

  goes_next : (k : ℕ) → (had + k) % quantum ≢ 0
      → time_in quantum had time start step k ≡ begun_time quantum had time start step (suc k)
  goes_next zero apart =
      let at : had + 1 - 1 ≡ had = omega arith in
      let sum : had + 0 ≡ had = omega arith in
      let since : since_begun quantum had 1 ≡ had = ap (λ n. n % quantum) at ∙ mod-eq_of_lt few in
      let whole : (had + 0) % quantum ≡ had = ap (λ n. n % quantum) sum ∙ mod-eq_of_lt few in
      let past : 1 ≤ had = omega (arith, whole, apart) in
      rw since (rw (le-ltb had 1 past) refl)
  goes_next (suc k) apart =
      let at : had + suc (suc k) - 1 ≡ (had + k) + 1 = omega arith in
      let before : had + suc k - 1 ≡ had + k = omega arith in
      let sum : had + suc k ≡ (had + k) + 1 = omega arith in
      let away : (had + k + 1) % quantum ≢ 0 = λ e. apart (ap (λ n. n % quantum) sum ∙ e) in
      same_by (since_begun quantum had (suc k)) (since_begun quantum had (suc (suc k))) k
      (ap (λ n. n % quantum) at ∙ one_later (had + k) away ∙ ap (λ n. n % quantum + 1) (sym before))

  -- one tick more
  pub time_more : (k : ℕ)
      → (if not ((had + k) % quantum == 0) then time_in quantum had time start step k else start + k * step)
      ≡ time_in quantum had time start step (suc k)
  time_more k = elim (cases_eq ((had + k) % quantum) 0) [
    | inl none ↦ rw (eq-eqb ((had + k) % quantum) 0 none) (begins_next k none)
    | inr apart ↦ rw (ne_eqb ((had + k) % quantum) 0 apart) (goes_next k apart)
  ]

  -- a turn that ends before the first end at or after so many ticks ends before them
  pub ends_before : (k ticks : ℕ) → 0 < k → (had + k) % quantum ≡ 0 → k < turn_end quantum (quantum - had) ticks
      → k < ticks
  ends_before k ticks later none less =
      let split = mod-add-div' (had + k) quantum in
      ends_by k ticks ((had + k) / quantum) ((ticks - (quantum - had) + (quantum - 1)) / quantum) refl later
      (omega (arith, split, none)) less
    where
      fewer : (m c : ℕ) → m * quantum < c * quantum → m < c
      fewer m c less = elim (cases_lt m c) [
        | inl lt ↦ lt
        | inr ge ↦ absurd (let le = mul-le-mul_right quantum ge in omega (arith, le, less))
      ]

      ends_by : (k ticks turns most : ℕ) → (ticks - (quantum - had) + (quantum - 1)) / quantum ≡ most → 0 < k
          → had + k ≡ turns * quantum → k < (quantum - had) + most * quantum → k < ticks
      ends_by k ticks zero most is later all less = absurd (omega (arith, later, all))
      ends_by k ticks (suc m) most is later all less =
          let split = suc-mul m quantum in
          let here : k ≡ (quantum - had) + m * quantum = omega (arith, all, split, few) in
          let lt : m < most = fewer m most (omega (arith, here, less)) in
          let le : suc m ≤ (ticks - (quantum - had) + (quantum - 1)) / quantum = omega (arith, lt, is) in
          let whole : suc m * quantum ≤ ticks - (quantum - had) + (quantum - 1) = (le-div_iff_mul-le some).0 le in
          omega (arith, whole, split, here, some)
