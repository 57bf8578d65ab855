-- A list that is shorter than a period is cut once at most, by this period and by longer ones.
use Rattle.std.proofs.Common.{◌≡◌, ℕ, zero, suc, ◌+◌, ◌*◌, ◌<◌, ◌≤◌, Bool, List, length}
use Rattle.std.proofs.Common.{arith, inl, inr, subst}
use Rattle.std.specs.Prelude.{min}
use Rattle.std.proofs.lemmas.Bool.{cases_lt}
use Rattle.hls_chron.specs.Ticks.{count}
use Rattle.hls_guarantee.specs.Service.{schedule_of}
use Rattle.hls_guarantee.specs.Satisfaction.{IsReserved, InPiece, ListSatisfies}
use Rattle.hls_guarantee.specs.declared.Guarantee.TheVariants.{Resb}
use Rattle.hls_guarantee.proofs.Slides.{reserved-none}
use Rattle.hls_audit_watch.specs.Inside.Cuts.{IsKeptAt}
use Rattle.hls_audit_watch.specs.Inside.Periods.{IsPeriod}

-- a piece of the longer period is one of the shorter
shorter : (e y w len i n cut : ℕ) → e < w → w < y → len < w → i + suc n ≤ len → e + cut * y ≤ i + y →
    i + suc n ≤ e + cut * y → InPiece e w i (suc n)
shorter e y w len i n zero small longer short hi starts ends =
    let a : 0 * y ≡ 0 = omega arith in
    let b : 0 * w ≡ 0 = omega arith in
    record { cut = 0; starts = omega arith; ends = omega arith }
shorter e y w len i n (suc zero) small longer short hi starts ends =
    let a : 1 * y ≡ y = omega arith in
    let b : 1 * w ≡ w = omega arith in
    record { cut = 1; starts = omega arith; ends = omega arith }
shorter e y w len i n (suc (suc k)) small longer short hi starts ends =
    let a : suc (suc k) * y ≡ k * y + y + y = omega arith in
    absurd (omega arith)

-- and a piece of the shorter one of the longer, at an offset that is no later
longer : (e f y w len i n cut : ℕ) → f ≤ e → (f < e → len ≤ f) → e < y → w < y → len < w → i + suc n ≤ len →
    f + cut * w ≤ i + w → i + suc n ≤ f + cut * w → InPiece e y i (suc n)
longer e f y w len i n zero le off small more short hi starts ends =
    let a : 0 * y ≡ 0 = omega arith in
    let b : 0 * w ≡ 0 = omega arith in
    record { cut = 0; starts = omega arith; ends = omega arith }
longer e f y w len i n (suc zero) le off small more short hi starts ends =
    let a : 1 * y ≡ y = omega arith in
    let b : 1 * w ≡ w = omega arith in
    let same : e ≤ f = elim (cases_lt f e) [ inr ge ↦ ge | inl lt ↦ let past = off lt in absurd (omega arith) ] in
    record { cut = 1; starts = omega arith; ends = omega arith }
longer e f y w len i n (suc (suc k)) le off small more short hi starts ends =
    let a : suc (suc k) * w ≡ k * w + w + w = omega arith in
    absurd (omega arith)

each-longer : (hard : Bool) (x y w : ℕ) (l : List Bool) (e i n : ℕ) → x ≤ y → w < y → length l < w → e < w →
    IsKeptAt hard x y w l e → i + n ≤ length l → InPiece e y i n → IsReserved hard x y n (count (schedule_of l) i n)
each-longer hard x y w l e i zero fits more short small k hi p = reserved-none hard x y (schedule_of l) i fits
each-longer hard x y w l e i (suc n) fits more short small k hi p =
    k.each i (suc n) (omega arith) hi (shorter e y w (length l) i n p.cut small more short hi p.starts p.ends)

each-shorter : (hard : Bool) (x y w : ℕ) (l : List Bool) (e f i n : ℕ) → x ≤ y → w < y → length l < w → e < y →
    f ≤ e → (f < e → length l ≤ f) → ((i n : ℕ) → 0 ≤ i → i + n ≤ length l → InPiece e y i n →
    IsReserved hard x y n (count (schedule_of l) i n)) → i + n ≤ length l → InPiece f w i n →
    IsReserved hard x y n (count (schedule_of l) i n)
each-shorter hard x y w l e f i zero fits more short small le off each hi p =
    reserved-none hard x y (schedule_of l) i fits
each-shorter hard x y w l e f i (suc n) fits more short small le off each hi p =
    each i (suc n) (omega arith) hi (longer e f y w (length l) i n p.cut le off small more short hi p.starts p.ends)

-- some offset of the shorter period is kept exactly where one of the longer is
pub kept_satisfies : (hard : Bool) (x y w : ℕ) (l : List Bool) → x ≤ y → IsPeriod y w (length l) →
    (e : ℕ) × (e < w) × IsKeptAt hard x y w l e → ListSatisfies (Resb hard x y) l
kept_satisfies hard x y w l fits p k = elim (cases_lt w y) [
  | inl more ↦
      let small : k.0 < y = omega (arith, k.1) in (
        k.0,
        small,
        λ i n lo hi piece. each-longer hard x y w l k.0 i n fits more (p.short more) k.1 k.2 hi piece,
      )
  | inr le ↦
      let same : w ≡ y = omega (arith, p.most) in (
        k.0,
        subst (λ v. k.0 < v) same k.1,
        let kept : IsKeptAt hard x y y l k.0 = subst (λ v. IsKeptAt hard x y v l k.0) same k.2 in kept.each,
      )
]

pub satisfies_kept : (hard : Bool) (x y w : ℕ) (l : List Bool) → x ≤ y → IsPeriod y w (length l) →
    ListSatisfies (Resb hard x y) l → (e : ℕ) × (e < w) × IsKeptAt hard x y w l e
satisfies_kept hard x y w l fits p s = elim (cases_lt w y) [
  | inl more ↦
      let short = p.short more in
      let f : ℕ = min s.0 (length l) in (
        f,
        omega arith,
        record {
          each = λ i n lo hi piece.
              each-shorter hard x y w l s.0 f i n fits more short s.1 (omega arith) (λ lt. omega arith) s.2 hi piece;
        },
      )
  | inr le ↦
      let same : y ≡ w = omega (arith, p.most) in
      (s.0, subst (λ v. s.0 < v) same s.1, subst (λ v. IsKeptAt hard x y v l s.0) same (record { each = s.2 }))
]
