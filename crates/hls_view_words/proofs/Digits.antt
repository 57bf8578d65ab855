-- Numbers begin with a digit.
use Rattle.std.proofs.Common.{true, [], ◌∷◌, ◌≡◌, ℕ, ◌≤◌, ◌<◌, ◌+◌, ◌-◌, arith, length, ap}
use Rattle.std.specs.Prelude.{decimal, nat_le}
use Rattle.std.proofs.lemmas.Fmt.{decimal_nonempty}
use Rattle.std.proofs.lemmas.Bool.{leb-true}
use Rattle.hls_text.specs.Lines.{Text}
use Rattle.hls_text.specs.Numbers.{is_digit, are_digits}
use Rattle.hls_text.proofs.NumberLaws.{digits_of_decimal, and_left, and_right}

pub record IsDigits (word : Text) : Type 0 where
  pub first : ℕ
  pub rest : Text
  pub small : first ≤ 9
  pub is : word ≡ (48 + first) ∷ rest

is_digits : (word : Text) → 0 < length word → are_digits word ≡ true → IsDigits word
is_digits [] some digits = absurd (omega (arith, some))
is_digits (b ∷ rest) some digits =
    let digit : is_digit b ≡ true = and_left (is_digit b) (are_digits rest) digits in
    let least : 48 ≤ b = leb-true 48 b (and_left (nat_le 48 b) (nat_le b 57) digit) in
    let most : b ≤ 57 = leb-true b 57 (and_right (nat_le 48 b) (nat_le b 57) digit) in
    let same : b ≡ 48 + (b - 48) = omega (arith, least) in
    record {
      first = b - 48;
      rest = rest;
      small = omega (arith, most);
      is = ap (λ (c : ℕ). c ∷ rest) same;
    }

pub number_is_digits : (number : ℕ) → number ≤ 1000000 → IsDigits (decimal number)
number_is_digits number small =
    is_digits (decimal number) (decimal_nonempty number (omega (arith, small)))
    (digits_of_decimal number (omega (arith, small)))

pub tick_is_digits : (tick : ℕ) → tick ≤ 99999 → IsDigits (decimal tick)
tick_is_digits tick small = number_is_digits tick (omega (arith, small))
