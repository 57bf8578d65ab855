-- Guarantees as bounds on the unserved ticks, and such bounds as soft guarantees.
use Rattle.std.proofs.Common.{◌≡◌, ℕ, zero, suc, ◌+◌, ◌*◌, ◌-◌, ◌≤◌, Bool, true, false, arith, ap}
use Rattle.hls_frac.specs.declared.Frac.{Frac}
use Rattle.hls_frac.specs.Frac.{IsQuotient}
use Rattle.hls_guarantee.specs.declared.Guarantee.TheVariants.{All, Resb, Resc, Psbe}
use Rattle.hls_chron.specs.Ticks.{one_if, count}
use Rattle.hls_guarantee.specs.Satisfaction.{IsReserved, InPiece, Satisfies}
use Rattle.hls_guarantee.specs.Conversions.{IsError, Covers}
use Rattle.hls_chron.proofs.CountLaws.{count-none, count-push}
use Rattle.hls_guarantee.proofs.Missed.{balance, balance_to}
use Rattle.hls_guarantee.proofs.Spans.{Spans, PieceSpans, longer}
use Rattle.hls_guarantee.proofs.Shares.{HasFew}
use Rattle.hls_guarantee.proofs.Fractions.{share-reserves, reserve-shares}

-- where nothing is hard, enough is all
pub soft : (x y n got : ℕ) → x + n ≤ y + got → IsReserved false x y n got
soft x y n got enough = record { enough = enough; capped = λ e. absurd (let no : false ≡ true = e in cc) }

pub windows-spans : (hard : Bool) (x y : ℕ) (f : ℕ → Bool) (lo hi : ℕ) → x ≤ y →
    Satisfies (Resc hard x y) f lo hi → Spans (y - x) y f lo hi
windows-spans hard x y f lo hi le s = record {
  few = λ i j from up to near.
      let reserved = s i (j - i) from (omega arith) (omega arith) in
      omega (arith, reserved.enough, balance_to f i j up);
}

pub blocks-spans : (hard : Bool) (x y : ℕ) (f : ℕ → Bool) (lo hi : ℕ) → x ≤ y →
    (s : Satisfies (Resb hard x y) f lo hi) → PieceSpans (y - x) s.0 y f lo hi
blocks-spans hard x y f lo hi le s = record {
  few = λ k i j from up to begun still.
      let piece : InPiece s.0 y i (j - i) =
      record { cut = k; starts = begun; ends = (let end : i + (j - i) ≡ j = omega arith in rw end still) } in
      let reserved = s.2 i (j - i) from (omega arith) piece in
      omega (arith, reserved.enough, balance_to f i j up);
}

-- spans of at most z ticks give windows of y ticks
pub spans-windows : (x y c z : ℕ) (f : ℕ → Bool) (lo hi : ℕ) → x ≤ y → Spans c z f lo hi → z ≤ y →
    c + (y - z) ≤ y - x → Satisfies (Resc false x y) f lo hi
spans-windows x y c z f lo hi le s wide few = λ i n from to short.
    let most = (longer c z y f lo hi s wide).few i (i + n) from (omega arith) to (omega arith) in
    soft x y n (count f i n) (omega (arith, most, balance f i n))

-- windows are blocks that are cut before the first tick
pub windows-blocks : (hard : Bool) (x y : ℕ) (f : ℕ → Bool) (lo hi : ℕ) → 1 ≤ x → x ≤ y →
    Satisfies (Resc hard x y) f lo hi → Satisfies (Resb hard x y) f lo hi
windows-blocks hard x y f lo hi some le s =
    (0, omega arith, λ i n from to piece. s i n from to (omega (arith, piece.starts, piece.ends)))

by_missed : (x y c m i n u v got : ℕ) → y ≡ c + x → u + n ≡ v + got →
    v * y + c * i ≤ u * y + c * (i + n + m) → x * n ≤ got * y + m * c
by_missed x y c m i n u v got sum even few =
    let served = ap (λ (k : ℕ). k * y) even in
    let window = ap (λ (k : ℕ). n * k) sum in
    omega (arith, served, window, few)

-- an error as a quotient, where c of y ticks are left over
pub error-quotient : (d : Frac) (m x y c : ℕ) → y ≡ c + x → IsError d m x y → IsQuotient d (m * c) y
error-quotient d m x y c sum error =
    let whole = ap (λ (k : ℕ). m * k * d.den) sum in
    omega (arith, error, whole)

pub quotient-error : (d : Frac) (m x y c : ℕ) → y ≡ c + x → IsQuotient d (m * c) y → IsError d m x y
quotient-error d m x y c sum quotient =
    let whole = ap (λ (k : ℕ). m * k * d.den) sum in
    omega (arith, quotient, whole)

-- few unserved ticks are a share
pub few-share : (s d : Frac) (x y m : ℕ) (f : ℕ → Bool) (lo hi : ℕ) → 1 ≤ y → x ≤ y → IsQuotient s x y →
    IsError d m x y → ((i j : ℕ) → lo ≤ i → i ≤ j → j ≤ hi → HasFew (y - x) y m f i j) →
    Satisfies (Psbe s d) f lo hi
few-share s d x y m f lo hi some le rate error few = λ i n from to.
    let c : ℕ = y - x in
    let sum : y ≡ c + x = omega arith in
    let most = by_missed x y c m i n _ _ _ sum (balance f i n) (few i (i + n) from (omega arith) to) in
    let over = error-quotient d m x y c sum error in
    reserve-shares s.num s.den d.num d.den x y (m * c) n (count f i n) some rate over most

-- where each tick is served, each part is
pub all-served : (f : ℕ → Bool) (lo hi i n : ℕ) → Satisfies All f lo hi → lo ≤ i → i + n ≤ hi →
    count f i n ≡ n
all-served f lo hi i zero s from to = count-none f i
all-served f lo hi i (suc n) s from to =
    let before = all-served f lo hi i n s from (omega arith) in
    let here : one_if (f (i + n)) ≡ 1 = ap one_if (s (i + n) (omega arith) (omega arith)) in
    omega (arith, before, here, count-push f i n)

pub all-windows : (x y : ℕ) (f : ℕ → Bool) (lo hi : ℕ) → x ≤ y → Satisfies All f lo hi →
    Satisfies (Resc false x y) f lo hi
all-windows x y f lo hi le s = λ i n from to short.
    soft x y n (count f i n) (omega (arith, all-served f lo hi i n s from to))

pub share-windows : (s d : Frac) (x y : ℕ) (f : ℕ → Bool) (lo hi : ℕ) → s.num ≤ s.den → Covers s d x y →
    Satisfies (Psbe s d) f lo hi → Satisfies (Resc false x y) f lo hi
share-windows s d x y f lo hi one leads share = λ i n from to short.
    soft x y n (count f i n)
    (share-reserves s.num s.den d.num d.den x y n (count f i n) s.positive d.positive one
    (omega (arith, leads)) short (share i n from to))
