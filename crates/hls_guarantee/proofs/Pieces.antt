-- Whole pieces, and pieces that are cut from some tick on.
use Rattle.std.proofs.Common.{◌≡◌, ℕ, zero, suc, ◌+◌, ◌-◌, ◌*◌, ◌<◌, ◌≤◌, Bool, arith, subst, inl, inr, sym}
use Rattle.std.specs.Prelude.{min}
use Rattle.std.proofs.lemmas.Bool.{cases_lt}
use Rattle.hls_guarantee.specs.declared.Guarantee.TheVariants.{Resb}
use Rattle.hls_chron.specs.Ticks.{count}
use Rattle.hls_guarantee.specs.Satisfaction.{IsReserved, InPiece, Satisfies}
use Rattle.hls_guarantee.specs.Pieces.{IsPiece, piece_start}
use Rattle.hls_guarantee.proofs.Offsets.{cut_at, fewer}
use Rattle.hls_guarantee.proofs.Slides.{reserved-part, reserved-none}

piece_in : (e y len k i n : ℕ) → e < y → IsPiece e y len k i n → InPiece e y i n
piece_in e y len zero i n small p =
    let first : i ≡ 0 = p.first in
    let last = p.last in
    record { cut = 0; starts = omega arith; ends = omega arith }
piece_in e y len (suc k) i n small p =
    let first : i ≡ e + k * y = p.first in
    let last = p.last in
    let next : suc k * y ≡ k * y + y = omega arith in
    record { cut = suc k; starts = omega arith; ends = omega arith }

start-near : (e y k : ℕ) → e < y → e + k * y ≤ piece_start e y k + y
start-near e y zero small = omega arith
start-near e y (suc k) small = omega arith

start-back : (e y k i : ℕ) → e + k * y ≤ i + y → piece_start e y k ≤ i
start-back e y zero i starts = omega arith
start-back e y (suc k) i starts = omega arith

-- each whole piece is a part of a piece
pub pieces-whole : (hard : Bool) (x y : ℕ) (f : ℕ → Bool) (len : ℕ) → Satisfies (Resb hard x y) f 0 len →
    (e : ℕ) × (e < y) × ((k i n : ℕ) → IsPiece e y len k i n → IsReserved hard x y n (count f i n))
pieces-whole hard x y f len s = (
  s.0,
  s.1,
  λ k i n p.
      let last = p.last in
      s.2 i n (omega arith) (omega arith) (piece_in s.0 y len k i n s.1 p),
)

-- and each part of a piece is a part of a whole one
pub whole-pieces : (hard : Bool) (x y : ℕ) (f : ℕ → Bool) (len : ℕ) →
    (e : ℕ) × (e < y) × ((k i n : ℕ) → IsPiece e y len k i n → IsReserved hard x y n (count f i n)) →
    Satisfies (Resb hard x y) f 0 len
whole-pieces hard x y f len s = (
  s.0,
  s.1,
  λ i n lo hi p.
      let e : ℕ = s.0 in
      let k : ℕ = p.cut in
      let a : ℕ = piece_start e y k in
      let end : ℕ = min (e + k * y) len in
      let before : a ≤ i = start-back e y k i p.starts in
      let inside : i + n ≤ end = (let ends = p.ends in omega arith) in
      let whole : a + (end - a) ≡ end = omega arith in
      let reserved = s.2 k a (end - a) (record { first = omega arith; last = whole }) in
      reserved-part hard x y f a (end - a) i n before (omega arith) reserved,
)

-- pieces that are cut at c and every y ticks after it
pub blocks_from : (hard : Bool) (x y c : ℕ) (f : ℕ → Bool) (lo hi : ℕ) → 0 < y → x ≤ y → c ≤ lo + y →
    ((k i n : ℕ) → lo ≤ i → i + n ≤ hi → c + k * y ≤ i + y → i + n ≤ c + k * y →
    IsReserved hard x y n (count f i n)) → Satisfies (Resb hard x y) f lo hi
blocks_from hard x y c f lo hi pos fits near each =
    let cut = cut_at y c pos in
    let e : ℕ = cut.offset in
    let q : ℕ = cut.pieces in
    let is : e + q * y ≡ c = cut.is in (
      e,
      cut.small,
      λ i n from to p.
          let starts = p.starts in
          let ends = p.ends in
          elim (cases_lt p.cut q) [
            | inl early ↦
                let short = fewer y p.cut q early in
                let none : n ≡ 0 = omega arith in
                let empty = reserved-none hard x y f i fits in
                subst (λ m. IsReserved hard x y m (count f i m)) (sym none) empty
            | inr late ↦
                let k : ℕ = p.cut - q in
                let sum : k + q ≡ p.cut = omega arith in
                let whole : (k + q) * y ≡ p.cut * y = (rw sum (omega arith)) in
                let split : (k + q) * y ≡ k * y + q * y = omega arith in
                each k i n from to (omega arith) (omega arith)
          ],
    )
