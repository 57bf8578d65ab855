-- The worst ticks that satisfy windows: in each period the budget comes last.
use Rattle.std.proofs.Common.{◌≡◌, ℕ, zero, suc, ◌+◌, ◌-◌, ◌*◌, ◌<◌, ◌≤◌, ◌%◌, ◌/◌, Bool, refl, sym, ap, ◌∙◌}
use Rattle.std.proofs.Common.{arith, inl, inr}
use Rattle.std.specs.Prelude.{min, nat_lt, not}
use Rattle.std.proofs.lemmas.Bool.{cases_lt, lt-ltb, le-ltb}
use Rattle.std.proofs.lemmas.Nat.{mod-mul-add}
use Rattle.hls_chron.specs.Ticks.{one_if, count}
use Rattle.hls_guarantee.specs.declared.Guarantee.TheVariants.{Resc}
use Rattle.hls_guarantee.specs.Satisfaction.{IsReserved, Satisfies}
use Rattle.hls_guarantee.proofs.Missed.{missed, balance}
use Rattle.hls_guarantee.proofs.Offsets.{cut_at}
use Rattle.hls_longer_laws.specs.Least.{least_of_windows}

-- all but the first c of each y ticks
abbrev pub late : (c y t : ℕ) → Bool
late c y t = not (nat_lt (t % y) c)

by_place : (c y r n : ℕ) → n % y ≡ r → min r c + (1 - one_if (late c y n)) ≡ min (suc r) c
by_place c y r n is = elim (cases_lt r c) [
  | inl first ↦ rw (is, lt-ltb r c first) (omega (arith, first))
  | inr later ↦ rw (is, le-ltb r c later) (omega (arith, later))
]

-- the ticks missed, by whole periods and a rest
pub missed_is : (c y periods rest n : ℕ) → c ≤ y → rest + periods * y ≡ n → rest < y
    → missed (late c y) n ≡ periods * c + min rest c
unfolding missed
missed_is c y zero rest zero le is small = omega (arith, is)
missed_is c y (suc p) rest zero le is small = absurd (omega (arith, is, small))
missed_is c y zero zero (suc n) le is small = absurd (omega (arith, is))
missed_is c y (suc p) zero (suc n) le is small =
    let last : y - 1 + p * y ≡ n = omega (arith, is, small) in
    let place : n % y ≡ y - 1 =
    ap (λ t. t % y) (sym last ∙ omega arith) ∙ mod-mul-add p y (y - 1) (omega (arith, small)) in
    omega (arith, missed_is c y p (y - 1) n le last (omega (arith, small)), by_place c y (y - 1) n place, le, small)
missed_is c y p (suc r) (suc n) le is small =
    let last : r + p * y ≡ n = omega (arith, is) in
    let place : n % y ≡ r = ap (λ t. t % y) (sym last ∙ omega arith) ∙ mod-mul-add p y r (omega (arith, small)) in
    omega (arith, missed_is c y p r n le last (omega (arith, small)), by_place c y r n place)

-- a window of at most y ticks, which begins r ticks after a period does
reserved : (hard : Bool) (c x y p r i n got : ℕ) → y ≡ c + x → r + p * y ≡ i → r < y → n ≤ y
    → got ≡ count (late c y) i n → IsReserved hard x y n got
reserved hard c x y p r i n got sum is small short counted =
    let before = missed_is c y p r i (omega (arith, sum)) is small in
    let even = balance (late c y) i n in
    elim (cases_lt (r + n) y) [
      | inl same ↦
          let after = missed_is c y p (r + n) (i + n) (omega (arith, sum)) (omega (arith, is)) same in
          record {
            enough = omega (arith, before, after, even, counted, sum);
            capped = λ _. omega (arith, before, after, even, counted, sum, same);
          }
      | inr next ↦
          let after = missed_is c y (suc p) (r + n - y) (i + n) (omega (arith, sum)) (omega (arith, is, next))
          (omega (arith, small, short, next)) in
          record {
            enough = omega (arith, before, after, even, counted, sum, next, small, short);
            capped = λ _. omega (arith, before, after, even, counted, sum, next, small, short);
          }
    ]

pub late-satisfies : (hard : Bool) (c x y hi : ℕ) → y ≡ c + x → 0 < y → Satisfies (Resc hard x y) (late c y) 0 hi
late-satisfies hard c x y hi sum some = λ i n from to short.
    let at = cut_at y i some in
    reserved hard c x y at.pieces at.offset i n (count (late c y) i n) sum at.is at.small short refl

-- what they miss of the first n, and the least of windows of n
pub late-least : (x y n : ℕ) → 0 < y → x ≤ y → least_of_windows x y n + missed (late (y - x) y) n ≡ n
late-least x y n some fits =
    let is = missed_is (y - x) y (n / y) (n % y) n (omega arith) (omega arith) (omega arith) in
    let whole : n / y * y ≡ n / y * (y - x) + n / y * x =
    ap (λ k. n / y * k) (let sum : y ≡ y - x + x = omega (arith, fits) in sum) ∙ omega arith in
    let all : n % y + n / y * y ≡ n = omega arith in
    omega (arith, is, whole, all)
