-- Pieces that are cut at one offset, seen from another tick.
use Rattle.std.proofs.Common.{◌≡◌, ℕ, ◌+◌, ◌-◌, ◌*◌, ◌/◌, ◌%◌, ◌<◌, ◌≤◌, arith, inl, inr}
use Rattle.std.proofs.lemmas.Bool.{cases_lt}
use Rattle.std.proofs.Math.Nat.{mul-le-mul_left}
use Rattle.hls_guarantee.specs.Satisfaction.{InPiece}

-- every tick is some whole pieces after an offset
pub record Cut (y c : ℕ) : Type 0 where
  pub offset : ℕ
  pub pieces : ℕ
  pub small : offset < y
  pub is : offset + pieces * y ≡ c

pub cut_at : (y c : ℕ) → 0 < y → Cut y c
cut_at y c pos = record { offset = c % y; pieces = c / y; small = omega arith; is = omega arith }

-- fewer pieces end at least y earlier
pub fewer : (y m n : ℕ) → m < n → m * y + y ≤ n * y
fewer y m n lt =
    let up : y * (m + 1) ≤ y * n = mul-le-mul_left y (let s : m + 1 ≤ n = omega arith in s) in
    omega (arith, up)

-- the cuts of e are those of f, k ticks later
pub record Later (e f y k : ℕ) : Type 0 where
  pub ahead : ℕ
  pub behind : ℕ
  pub small_e : e < y
  pub small_f : f < y
  pub meet : e + ahead * y ≡ f + behind * y + k

pub piece_later : (e f y k i n : ℕ) → Later e f y k → InPiece f y i n → InPiece e y (i + k) n
piece_later e f y k i n s p =
    let a : ℕ = s.ahead in
    let b : ℕ = s.behind in
    let j : ℕ = p.cut in
    let sum : (a + j) * y ≡ a * y + j * y = omega arith in
    let reach : b ≤ a + j = elim (cases_lt (a + j) b) [
      | inr le ↦ le
      | inl lt ↦ let short = fewer y (a + j) b lt in omega (arith, s.meet, s.small_e)
    ] in
    let m : ℕ = a + j - b in
    let all : (m + b) * y ≡ (a + j) * y = (let e : m + b ≡ a + j = omega arith in rw e (omega arith)) in
    let split : (m + b) * y ≡ m * y + b * y = omega arith in
    record { cut = m; starts = omega (arith, s.meet, p.starts); ends = omega (arith, s.meet, p.ends) }

pub piece_earlier : (e f y k i n : ℕ) → Later e f y k → InPiece e y (i + k) n → InPiece f y i n
piece_earlier e f y k i n s p =
    let a : ℕ = s.ahead in
    let b : ℕ = s.behind in
    let j : ℕ = p.cut in
    let sum : (b + j) * y ≡ b * y + j * y = omega arith in
    let reach : a ≤ b + j = elim (cases_lt (b + j) a) [
      | inr le ↦ le
      | inl lt ↦ let short = fewer y (b + j) a lt in omega (arith, s.meet, s.small_f, p.ends)
    ] in
    let m : ℕ = b + j - a in
    let all : (m + a) * y ≡ (b + j) * y = (let e : m + a ≡ b + j = omega arith in rw e (omega arith)) in
    let split : (m + a) * y ≡ m * y + a * y = omega arith in
    record { cut = m; starts = omega (arith, s.meet, p.starts); ends = omega (arith, s.meet, p.ends) }

-- the offset k ticks later
pub later_offset : (f y k : ℕ) → f < y → (e : ℕ) × Later e f y k
later_offset f y k small =
    let c = cut_at y (f + k) (omega arith) in (
      c.offset,
      record { ahead = c.pieces; behind = 0; small_e = c.small; small_f = small; meet = omega (arith, c.is) },
    )

-- the offset k ticks earlier
pub earlier_offset : (e y k : ℕ) → e < y → (f : ℕ) × Later e f y k
earlier_offset e y k small =
    let enough : k * 1 ≤ k * y = mul-le-mul_left k (let s : 1 ≤ y = omega arith in s) in
    let c = cut_at y (e + k * y - k) (omega arith) in (
      c.offset,
      record { ahead = k; behind = c.pieces; small_e = small; small_f = c.small; meet = omega (arith, c.is) },
    )
