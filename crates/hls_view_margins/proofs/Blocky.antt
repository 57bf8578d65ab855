-- A window whose best cut is fine keeps a reservation by blocks.
use Rattle.std.proofs.Common.{◌≡◌, ℕ, zero, suc, ◌+◌, ◌-◌, ◌*◌, ◌/◌, ◌%◌, ◌<◌, ◌≤◌, Bool, true, subst, arith}
use Rattle.std.proofs.Common.{refl, ap, inl, inr}
use Rattle.std.proofs.Math.Nat.{mul-le-mul_right}
use Rattle.std.proofs.lemmas.Bool.{cases_lt}
use Rattle.std.specs.Prelude.{Option, Some, None, min}
use Rattle.hls_chron.specs.Ticks.{count}
use Rattle.hls_chron.proofs.CountLaws.{count-none, count-within}
use Rattle.hls_guarantee.specs.declared.Guarantee.TheVariants.{Resb}
use Rattle.hls_guarantee.specs.Pieces.{piece_start}
use Rattle.hls_guarantee.specs.Limits.{IsReservation}
use Rattle.hls_guarantee.specs.Satisfaction.{Satisfies, IsReserved, InPiece}
use Rattle.hls_view_margins.specs.declared.margin.Part.{Part}
use Rattle.hls_view_margins.specs.declared.scale.Scale.{Scale}
use Rattle.hls_view_margins.specs.Scales.{IsLine, IsScale}
use Rattle.hls_view_margins.specs.First.{has, wants}
use Rattle.hls_view_margins.specs.Parts.{part}
use Rattle.hls_view_margins.specs.Cuts.{IsCutPiece, IsBest, IsBestOf}
use Rattle.hls_view_margins.specs.Rows.{IsRow, IsWhole}
use Rattle.hls_view_margins.specs.Judged.{IsJudgedIn, HasOverWindow}
use Rattle.hls_view_margins.proofs.Walks.{piece_one}
use Rattle.hls_view_margins.proofs.Keeps.{res_has}
use Rattle.hls_view_margins.proofs.Enclosing.{enclosing}
use Rattle.hls_view_margins.proofs.Existing.{some_best}

-- no ticks
none_reserved : (hard : Bool) (x y : ℕ) (g : ℕ → Bool) (a : ℕ) → x ≤ y → IsReserved hard x y 0 (count g a 0)
none_reserved hard x y g a fits =
    let none = count-none g a in record { enough = omega (arith, fits); capped = λ _. omega (arith, none) }

-- each piece of a cut has enough, and not too many
pub record AreReserved (hard : Bool) (x y : ℕ) (g : ℕ → Bool) (lo hi e : ℕ) : Type 0 where
  pub enough : (p : Part) → IsCutPiece g lo hi e y p → x + p.ticks ≤ y + p.got
  pub capped : hard ≡ true → (p : Part) → IsCutPiece g lo hi e y p → p.got ≤ x

-- a part of piece k
in_piece_at : (scale : Scale) (hard : Bool) (x y : ℕ) (g : ℕ → Bool) (lo hi e k a n : ℕ) → lo ≤ hi
    → AreReserved hard x y g lo hi e → lo + piece_start e y k ≤ a → a + n ≤ min (lo + piece_start e y (suc k)) hi
    → 1 ≤ n → IsReserved hard x y n (count g a n)
in_piece_at scale hard x y g lo hi e k a n order are begins ends some =
    let from : ℕ = lo + piece_start e y k in
    let until : ℕ = min (lo + piece_start e y (suc k)) hi in
    let p = part g from (until - from) in
    let first = piece_one scale g lo hi e y k (Some p) order (omega (arith, begins, ends, some), refl) in
    let piece : IsCutPiece g lo hi e y p = record { number = k; at = first.is } in
    let within = count-within g from (until - from) a n begins (omega (arith, begins, ends, some)) in
    let less = within.less in
    let idle = within.idle in
    let enough = are.enough p piece in
    record {
      enough = omega (arith, enough, idle);
      capped = λ is. let most = are.capped is p piece in omega (arith, most, less);
    }

-- where the cut before piece k + 1 is
piece_cut : (e y lo q r cut k : ℕ) → lo + e ≡ y * q + r → cut ≡ q + k → r + cut * y ≡ lo + (e + k * y)
piece_cut e y lo q r cut k is at =
    let split : cut * y ≡ (q + k) * y = ap (λ (m : ℕ). m * y) at in
    omega (arith, is, split)

early_cut : (e y lo q r cut : ℕ) → lo + e ≡ y * q + r → e < y → cut < q → r + cut * y < lo
early_cut e y lo q r cut is small less =
    let most : (cut + 1) * y ≤ q * y = mul-le-mul_right y (omega (arith, less)) in
    omega (arith, is, small, most)

start_by : (e y lo k a : ℕ) → e < y → lo ≤ a → lo + (e + k * y) ≤ a + y → lo + piece_start e y k ≤ a
start_by e y lo zero a small low starts = omega (arith, low)
start_by e y lo (suc k) a small low starts = omega (arith, starts)

in_piece : (scale : Scale) (hard : Bool) (x y : ℕ) (g : ℕ → Bool) (lo hi e q r a n : ℕ) → lo ≤ hi → x ≤ y
    → lo + e ≡ y * q + r → e < y → AreReserved hard x y g lo hi e → lo ≤ a → a + n ≤ hi → InPiece r y a n
    → IsReserved hard x y n (count g a n)
in_piece scale hard x y g lo hi e q r a zero order fits is small are low high piece =
    none_reserved hard x y g a fits
in_piece scale hard x y g lo hi e q r a (suc n) order fits is small are low high piece =
    let starts = piece.starts in
    let ends = piece.ends in
    elim (cases_lt piece.cut q) [
      | inl less ↦
          let early = early_cut e y lo q r piece.cut is small less in
          absurd (omega (arith, early, ends, low))
      | inr le ↦
          let k : ℕ = piece.cut - q in
          let at = piece_cut e y lo q r piece.cut k is (omega (arith, le)) in
          in_piece_at scale hard x y g lo hi e k a (suc n) order are
          (start_by e y lo k a small low (omega (arith, starts, at))) (omega (arith, ends, at, high)) (omega arith)
    ]

-- the best cut of a window
pub best_reserved : (scale : Scale) (hard : Bool) (x y : ℕ) (f g : ℕ → Bool) (lo hi from until : ℕ) (b : Part)
    → IsScale scale (λ l. IsLine l y 0 1) (λ l. IsLine l x 1 0) 1
    → ((p : Part) → IsJudgedIn (Resb hard x y) scale f g lo hi p → wants scale p ≤ has scale p)
    → IsWhole f lo hi from until → (best : IsBest scale g from until hard x y (min y (until - from)) b)
    → AreReserved hard x y g from until best.offset
best_reserved scale hard x y f g lo hi from until b is enough whole best = record {
  enough = λ p piece.
      let le = enough p
      (record {
        from = from;
        until = until;
        window = whole;
        judged = record { one = b; best = best; piece = piece };
      }) in
      let h = res_has scale x y p is in
      omega (arith, le, h.0, h.1);
  capped = λ is_hard p piece. elim (cases_lt x p.got) [
    | inl more ↦ absurd (best.allowed is_hard (record { one = p; is = piece; over = more }))
    | inr most ↦ most
  ];
}

pub blocks_in : (scale : Scale) (hard : Bool) (x y : ℕ) (g : ℕ → Bool) (from until i j e : ℕ) → IsReservation x y
    → from ≤ i → j ≤ until → from ≤ until → e < y → AreReserved hard x y g from until e
    → Satisfies (Resb hard x y) g i j
blocks_in scale hard x y g from until i j e fits low high order small are =
    let one = fits.some in
    let most = fits.fits in (
      (from + e) % y,
      omega (arith, one, most),
      λ a n after before piece.
          in_piece scale hard x y g from until e ((from + e) / y) ((from + e) % y) a n order most
          (omega (arith, one, most)) small are (omega (arith, low, after)) (omega (arith, high, before)) piece,
    )

best_kept : (scale : Scale) (hard : Bool) (x y : ℕ) (f g : ℕ → Bool) (lo hi i j from until : ℕ) (best : Option Part)
    → IsReservation x y → IsScale scale (λ l. IsLine l y 0 1) (λ l. IsLine l x 1 0) 1
    → ((p : Part) → IsJudgedIn (Resb hard x y) scale f g lo hi p → wants scale p ≤ has scale p)
    → (HasOverWindow (Resb hard x y) f g lo hi → ⊥) → IsWhole f lo hi from until → from ≤ i → j ≤ until
    → IsBestOf scale g from until hard x y (min y (until - from)) best → Satisfies (Resb hard x y) g i j
best_kept scale hard x y f g lo hi i j from until None fits is enough never whole low high none =
    absurd (never (record { from = from; until = until; window = whole; over = none }))
best_kept scale hard x y f g lo hi i j from until (Some b) fits is enough never whole low high best =
    let some = whole.some in
    let within = best.within in
    blocks_in scale hard x y g from until i j best.offset fits low high (omega (arith, some)) (omega (arith, within))
    (best_reserved scale hard x y f g lo hi from until b is enough whole best)

pub empty_kept : (hard : Bool) (x y : ℕ) (g : ℕ → Bool) (i j : ℕ) → IsReservation x y → j ≤ i
    → Satisfies (Resb hard x y) g i j
empty_kept hard x y g i j fits none =
    let one = fits.some in
    let most = fits.fits in (
      0,
      omega (arith, one, most),
      λ a n after before piece.
          let e : 0 ≡ n = omega (arith, after, before, none) in
          subst (λ (k : ℕ). IsReserved hard x y k (count g a k)) e (none_reserved hard x y g a most),
    )

pub blocks_kept : (scale : Scale) (hard : Bool) (x y : ℕ) (f g : ℕ → Bool) (lo hi i j : ℕ) → IsReservation x y
    → IsScale scale (λ l. IsLine l y 0 1) (λ l. IsLine l x 1 0) 1
    → ((p : Part) → IsJudgedIn (Resb hard x y) scale f g lo hi p → wants scale p ≤ has scale p)
    → (HasOverWindow (Resb hard x y) f g lo hi → ⊥) → IsRow f lo hi i j → Satisfies (Resb hard x y) g i j
blocks_kept scale hard x y f g lo hi i j fits is enough never row = elim (cases_lt i j) [
  | inl some ↦
      let in_one = enclosing f lo hi i j some row in
      let whole = in_one.whole in
      let full = whole.some in
      let best = some_best scale g in_one.from in_one.until hard x y (min y (in_one.until - in_one.from)) full
      (omega arith) in
      best_kept scale hard x y f g lo hi i j in_one.from in_one.until best.0 fits is enough never whole in_one.low
      in_one.high best.1
  | inr none ↦ empty_kept hard x y g i j fits none
]
