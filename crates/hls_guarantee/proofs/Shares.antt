-- The unserved ticks against a share of the span: that of a span is c / y of it and a bounded error.
use Rattle.std.proofs.Common.{◌≡◌, ℕ, ◌+◌, ◌*◌, ◌-◌, ◌<◌, ◌≤◌, zero, suc, refl, arith, inl, inr, Bool, ap}
use Rattle.std.proofs.Common.{mul-le-mul_left, mul-le-mul_right}
use Rattle.std.proofs.lemmas.Bool.{cases_lt}
use Rattle.hls_guarantee.proofs.Missed.{missed, missed-le, slow}
use Rattle.hls_guarantee.proofs.Spans.{Spans, PieceSpans, at}

partial_by : (x c y p n : ℕ) → y ≡ c + x → n ≤ p → n ≤ c → n * y ≤ c * (p + x)
partial_by x c y p n sum some few =
    omega (arith, mul-le-mul_left c some, mul-le-mul_right x few, ap (λ (k : ℕ). n * k) sum)

-- at most c of p = j - i ticks are not served: then y times as many are at most c * (p + x)
partial : (x c y i j u v : ℕ) → y ≡ c + x → i ≤ j → u ≤ v → v + i ≤ u + j → v ≤ u + c →
    v * y + c * i ≤ u * y + c * (j + x)
partial x c y i j u v sum le up slow few =
    let by = partial_by x c y (j - i) (v - u) sum (omega arith) (omega arith) in
    let more = ap (λ (n : ℕ). n * y) (let e : v ≡ u + (v - u) = omega arith in e) in
    let far = ap (λ (n : ℕ). c * n) (let e : j ≡ i + (j - i) = omega arith in e) in
    omega (arith, by, more, far)

-- the unserved ticks from i on and before j, with c of y ticks and an error of m
abbrev pub HasFew : (c y m : ℕ) (f : ℕ → Bool) (i j : ℕ) → Type 0
HasFew c y m f i j = missed f j * y + c * i ≤ missed f i * y + c * (j + m)

part : (x c y : ℕ) (f : ℕ → Bool) (i j : ℕ) → y ≡ c + x → i ≤ j → missed f j ≤ missed f i + c →
    HasFew c y x f i j
part x c y f i j sum le few = partial x c y i j _ _ sum le (missed-le f i j le) (slow f i j le) few

-- windows: one part of a window
pub span-share : (x c y d : ℕ) (f : ℕ → Bool) (lo hi : ℕ) → y ≡ c + x → Spans c y f lo hi → (i j : ℕ) →
    lo ≤ i → i ≤ j → j ≤ hi → j ≤ i + suc d * y → HasFew c y x f i j
span-share x c y zero f lo hi sum s i j from up to near =
    part x c y f i j sum up (s.few i j from up to (omega arith))
span-share x c y (suc d) f lo hi sum s i j from up to near = elim (cases_lt (i + y) j) [
  | inr short ↦ part x c y f i j sum up (s.few i j from up to short)
  | inl long ↦
      let first = s.few i (i + y) from (omega arith) (omega arith) (omega arith) in
      let rest = span-share x c y d f lo hi sum s (i + y) j (omega arith) (omega arith) to (omega arith) in
      omega (arith, mul-le-mul_right y first, rest)
]

-- one more whole piece
one_more : (x c y i b q u v w : ℕ) → q ≡ b + y → v * y + c * i ≤ u * y + c * (b + x) → w ≤ v + c →
    w * y + c * i ≤ u * y + c * (q + x)
one_more x c y i b q u v w e before few =
    omega (arith, mul-le-mul_right y few, ap (λ (n : ℕ). c * n) e)

-- up to the end of a piece: one part of a piece
up_to_cut : (x c e y k d q : ℕ) (f : ℕ → Bool) (lo hi : ℕ) → y ≡ c + x → PieceSpans c e y f lo hi → (i : ℕ) →
    lo ≤ i → e + k * y ≤ i + y → i ≤ e + k * y → q ≡ e + (k + d) * y → q ≤ hi → HasFew c y x f i q
up_to_cut x c e y k zero q f lo hi sum p i from begun still is to =
    let le : i ≤ q = omega arith in
    part x c y f i q sum le (p.few k i q from le to begun (omega arith))
up_to_cut x c e y k (suc d) q f lo hi sum p i from begun still is to =
    let b : ℕ = e + (k + d) * y in
    let le : i ≤ b = omega arith in
    let before = up_to_cut x c e y k d b f lo hi sum p i from begun still (omega arith) (omega arith) in
    let last = p.few (suc (k + d)) b q (omega arith) (omega arith) to (omega arith) (omega arith) in
    one_more x c y i b q _ _ _ (omega arith) before last

-- a later piece
past : (k m y e i j : ℕ) → e + k * y < j → j < e + m * y → k < m
past k m y e i j lo hi = elim (cases_lt k m) [
  | inl lt ↦ lt
  | inr ge ↦ absurd (omega (arith, mul-le-mul_right {m = m} {n = k} y ge))
]

two_parts : (x c e y k d : ℕ) (f : ℕ → Bool) (lo hi : ℕ) → y ≡ c + x → PieceSpans c e y f lo hi → (i j : ℕ) →
    lo ≤ i → j ≤ hi → e + k * y ≤ i + y → i ≤ e + k * y → e + suc (k + d) * y ≤ j + y →
    j < e + suc (k + d) * y → HasFew c y (2 * x) f i j
two_parts x c e y k d f lo hi sum p i j from to begun still here near =
    let q : ℕ = e + (k + d) * y in
    let up : q ≤ j = omega arith in
    let far : i ≤ q = omega arith in
    let first = up_to_cut x c e y k d q f lo hi sum p i from begun still refl (omega arith) in
    let few = p.few (suc (k + d)) q j (omega arith) up to (omega arith) (omega arith) in
    let last = part x c y f q j sum up few in
    omega (arith, first, last)

-- pieces: a part of a piece at either end
pub piece-share : (x c e y : ℕ) (f : ℕ → Bool) (lo hi : ℕ) → e < y → y ≡ c + x → PieceSpans c e y f lo hi →
    (i j : ℕ) → lo ≤ i → i ≤ j → j ≤ hi → HasFew c y (2 * x) f i j
piece-share x c e y f lo hi small sum p i j from up to =
    let a = at e y i small in
    let z = at e y j small in
    let k : ℕ = a.piece in
    let m : ℕ = z.piece in
    let begun : e + k * y ≤ i + y = a.from in
    let still : i < e + k * y = a.to in
    elim (cases_lt (e + k * y) j) [
      | inr one ↦ omega (arith, part x c y f i j sum up (p.few k i j from up to begun one))
      | inl more ↦
          let later : k < m = past k m y e i j more z.to in
          let d : ℕ = m - suc k in
          let is : suc (k + d) ≡ m = omega arith in
          let times : suc (k + d) * y ≡ m * y = ap (λ (n : ℕ). n * y) is in
          let near = z.to in
          let here = z.from in
          two_parts x c e y k d f lo hi sum p i j from to begun (omega arith) (omega arith) (omega arith)
    ]
