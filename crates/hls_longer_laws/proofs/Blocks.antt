-- What follows from blocks, exactly.
use Rattle.std.proofs.Common.{◌≡◌, ℕ, zero, suc, ◌+◌, ◌-◌, ◌*◌, ◌<◌, ◌≤◌, ◌%◌, ◌/◌, Bool, false, refl, ap, ◌∙◌}
use Rattle.std.proofs.Common.{arith, inl, inr, add-suc, add-zero}
use Rattle.std.specs.Prelude.{min, nat_lt, if◌then◌else◌}
use Rattle.std.proofs.lemmas.Bool.{cases_lt, lt-ltb, le-ltb}
use Rattle.hls_chron.specs.Ticks.{one_if, count}
use Rattle.hls_chron.proofs.CountLaws.{count-agree}
use Rattle.hls_guarantee.specs.declared.Guarantee.TheVariants.{Resb, Resc}
use Rattle.hls_guarantee.specs.Limits.{IsReservation}
use Rattle.hls_guarantee.specs.Satisfaction.{IsReserved, Satisfies}
use Rattle.hls_guarantee.proofs.Missed.{missed, missed-le, balance, slow}
use Rattle.hls_guarantee.proofs.Spans.{Spans, PieceSpans, at}
use Rattle.hls_guarantee.proofs.Readings.{blocks-spans, spans-windows}
use Rattle.hls_longer_laws.specs.Implies.{Implies}
use Rattle.hls_longer_laws.specs.Least.{least_of_blocks}
use Rattle.hls_longer_laws.proofs.Late.{late, missed_is, late-satisfies, late-least}

-- ---- no ticks have less

-- ticks that begin with a block miss no more than those of windows
pieces_on : (c e y k a b j : ℕ) (f : ℕ → Bool) (lo hi : ℕ) → PieceSpans c e y f lo hi → lo ≤ e + k * y → j ≤ hi
    → e + k * y + (b + a * y) ≡ j → b < y → missed f j ≤ missed f (e + k * y) + (a * c + min b c)
pieces_on c e y k zero b j f lo hi p from to is small =
    let few = p.few (suc k) (e + k * y) j from (omega (arith, is)) to (omega arith) (omega (arith, is, small)) in
    omega (arith, few, slow f (e + k * y) j (omega (arith, is)), is)
pieces_on c e y k (suc a) b j f lo hi p from to is small =
    let whole = p.few (suc k) (e + k * y) (e + suc k * y) from (omega arith) (omega (arith, is, to)) (omega arith)
    (omega arith) in
    let rest = pieces_on c e y (suc k) a b j f lo hi p (omega (arith, from)) to (omega (arith, is)) small in
    omega (arith, whole, rest)

pieces_missed : (c e y k j : ℕ) (f : ℕ → Bool) (lo hi : ℕ) → 0 < y → c ≤ y → PieceSpans c e y f lo hi
    → lo ≤ e + k * y → e + k * y ≤ j → j ≤ hi
    → missed f j ≤ missed f (e + k * y) + missed (late c y) (j - (e + k * y))
pieces_missed c e y k j f lo hi some le p from up to =
    let n : ℕ = j - (e + k * y) in
    let is = missed_is c y (n / y) (n % y) n le (omega (arith, some)) (omega (arith, some)) in
    let parts : n % y + n / y * y ≡ n = omega (arith, some) in
    let few = pieces_on c e y k (n / y) (n % y) j f lo hi p from to (omega (arith, parts, up)) (omega (arith, some)) in
    omega (arith, is, few)

spans : (c e y n : ℕ) (f : ℕ → Bool) (lo hi : ℕ) → e < y → c ≤ y → c ≤ n → PieceSpans c e y f lo hi
    → Spans (c + missed (late c y) (n - c)) n f lo hi
spans c e y n f lo hi small le long p = record {
  few = λ i j from up to near.
      let here = at e y i small in
      let k : ℕ = here.piece in
      let m : ℕ = e + k * y in
      let begun : m ≤ i + y = here.from in
      let open_still : i < m = here.to in
      elim (cases_lt m j) [
        | inr one ↦ omega (arith, p.few k i j from up to begun one)
        | inl more ↦
            let first = p.few k i m from (omega (arith, open_still)) (omega (arith, more, to)) begun (omega arith) in
            let rest = pieces_missed c e y k j f lo hi (omega (arith, small)) le p (omega (arith, from, open_still))
            (omega (arith, more)) to in
            elim (cases_lt (n - c) (j - m)) [
              | inl over ↦ omega (
                arith,
                rest,
                over,
                near,
                long,
                open_still,
                more,
                slow f i m (omega (arith, open_still)),
                slow (late c y) (n - c) (j - m) (omega (arith, over)),
              )
              | inr within ↦ omega (arith, first, rest, missed-le (late c y) (j - m) (n - c) within)
            ]
      ];
}

pub enough : (hard : Bool) (x y x' y' : ℕ) → IsReservation x y → IsReservation x' y' → x' ≤ least_of_blocks x y y'
    → Implies (Resb hard x y) (Resc false x' y')
enough hard x y x' y' from to least = λ f lo hi s.
    let some : 0 < y = omega (arith, from.some, from.fits) in
    let is = late-least x y (y' - (y - x)) some from.fits in
    elim (cases_lt y' (y - x)) [
      | inl short ↦ absurd (omega (arith, is, short, least, to.some))
      | inr long ↦
          spans-windows x' y' (y - x + missed (late (y - x) y) (y' - (y - x))) y' f lo hi to.fits
          (spans (y - x) s.0 y y' f lo hi s.1 (omega arith) long (blocks-spans hard x y f lo hi from.fits s))
          (omega arith) (omega (arith, is, least, long))
    ]

-- ---- and some have no more: the budget of the first block comes first, and that of each later one last

abbrev pub worst : (x y t : ℕ) → Bool
worst x y t = if nat_lt t y then nat_lt t x else late (y - x) y t

pub first_is : (x y n : ℕ) → x ≤ y → n ≤ y → missed (worst x y) n ≡ n - x
unfolding missed
first_is x y zero fits le = omega arith
first_is x y (suc n) fits le =
    let before = first_is x y n fits (omega (arith, le)) in
    rw (lt-ltb n y (omega (arith, le))) (one_more (nat_lt n x) refl before)
  where
    one_more : (is : Bool) → nat_lt n x ≡ is → missed (worst x y) n ≡ n - x
        → missed (worst x y) n + (1 - one_if (nat_lt n x)) ≡ suc n - x
    one_more is at before = elim (cases_lt n x) [
      | inl lt ↦ rw (lt-ltb n x lt) (omega (arith, before, lt))
      | inr ge ↦ rw (le-ltb n x ge) (omega (arith, before, ge))
    ]

pub later_is : (x y m : ℕ) → 0 < y → x ≤ y → missed (worst x y) (y + m) ≡ missed (late (y - x) y) (y + m)
unfolding missed
later_is x y zero some fits =
    let one = missed_is (y - x) y 1 0 (y + 0) (omega arith) (omega arith) some in
    let first = first_is x y y fits (omega arith) in
    rw (add-zero y) (omega (arith, first, rw (add-zero y) at one))
later_is x y (suc m) some fits =
    let before = later_is x y m some fits in
    rw (add-suc y m, le-ltb (y + m) y (omega arith)) (omega (arith, before))

same_later : (hard : Bool) (x y i n : ℕ) → 0 < y → x ≤ y → y ≤ i → n ≤ y
    → IsReserved hard x y n (count (worst x y) i n)
same_later hard x y i n some fits late_on short =
    let same : count (worst x y) i n ≡ count (late (y - x) y) i n =
    count-agree (worst x y) (late (y - x) y) i n (λ t ge lt. rw (le-ltb t y (omega (arith, ge, late_on))) refl) in
    rw same (
    late-satisfies hard (y - x) x y (i + n) (omega (arith, fits)) some i n (omega arith) (omega arith) short)

in_first : (hard : Bool) (x y i n : ℕ) → x ≤ y → i + n ≤ y → IsReserved hard x y n (count (worst x y) i n)
in_first hard x y i n fits within =
    let even = balance (worst x y) i n in
    let before = first_is x y i fits (omega (arith, within)) in
    let after = first_is x y (i + n) fits within in
    record {
      enough = omega (arith, even, before, after, fits, within);
      capped = λ _. omega (arith, even, before, after);
    }

one_piece : (y cut i n : ℕ) → i < y → cut * y ≤ i + y → i + n ≤ cut * y → i + n ≤ y
one_piece y zero i n early starts ends = omega (arith, ends)
one_piece y (suc zero) i n early starts ends = omega (arith, ends)
one_piece y (suc (suc k)) i n early starts ends = absurd (omega (arith, starts, early))

pub worst-satisfies : (hard : Bool) (x y hi : ℕ) → 0 < y → x ≤ y → Satisfies (Resb hard x y) (worst x y) 0 hi
worst-satisfies hard x y hi some fits = (
  0,
  some,
  λ i n from to piece. elim (cases_lt i y) [
    | inl early ↦
        in_first hard x y i n fits
        (one_piece y piece.cut i n early (omega (arith, piece.starts)) (omega (arith, piece.ends)))
    | inr on ↦ same_later hard x y i n some fits on (omega (arith, piece.starts, piece.ends))
  ],
)

-- the ticks behind the first budget
pub no_more : (hard : Bool) (x y x' y' : ℕ) → IsReservation x y → Implies (Resb hard x y) (Resc false x' y')
    → x' ≤ least_of_blocks x y y'
no_more hard x y x' y' from implies =
    let some : 0 < y = omega (arith, from.some, from.fits) in
    let fits : x ≤ y = from.fits in
    let all = implies (worst x y) 0 (x + y') (worst-satisfies hard x y (x + y') some fits) in
    let window = (all x y' (omega arith) (omega arith) (omega arith)).enough in
    let even = balance (worst x y) x y' in
    let none = first_is x y x fits fits in
    elim (cases_lt (y - x) y') [
      | inr short ↦
          let end = first_is x y (x + y') fits (omega (arith, short, fits)) in
          omega (arith, window, even, none, end)
      | inl long ↦
          let n : ℕ = y' - (y - x) in
          let at_end : x + y' ≡ y + n = omega (arith, long, fits) in
          let end = ap (missed (worst x y)) at_end ∙ later_is x y n some fits in
          let is = missed_is (y - x) y (n / y) (n % y) n (omega arith) (omega (arith, some)) (omega (arith, some)) in
          let parts : n % y + n / y * y ≡ n = omega (arith, some) in
          let next = missed_is (y - x) y (suc (n / y)) (n % y) (y + n) (omega arith) (omega (arith, parts))
          (omega (arith, some)) in
          omega (arith, window, even, none, end, is, next, late-least x y n some fits)
    ]

-- of at most one budget
pub no_further : (hard : Bool) (x y x' y' : ℕ) → IsReservation x y → x' ≤ x → 1 ≤ x'
    → Implies (Resb hard x y) (Resc false x' y') → 2 * y + x' ≤ 2 * x + y'
no_further hard x y x' y' from less one implies =
    let some : 0 < y = omega (arith, from.some, from.fits) in
    let least = no_more hard x y x' y' from implies in
    let n : ℕ = y' - (y - x) in
    let is = late-least x y n some from.fits in
    elim (cases_lt n y) [
      | inr long ↦ omega (arith, long, less, from.fits, some)
      | inl short ↦
          let missed = missed_is (y - x) y 0 n n (omega arith) (omega arith) short in
          omega (arith, least, is, missed, one, less, from.fits)
    ]
