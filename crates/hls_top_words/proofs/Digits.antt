-- Words that begin with a digit, as numbers do.
use Rattle.std.proofs.Common.{true, List, [], ◌∷◌, ◌≡◌, ℕ, ◌≤◌, ◌<◌, ◌^◌, ◌+◌, ◌-◌, arith, length, ap, sym, subst, ◌∙◌}
use Rattle.std.specs.Prelude.{decimal, nat_le}
use Rattle.std.proofs.lemmas.Fmt.{decimal_nonempty}
use Rattle.std.proofs.lemmas.Bool.{leb-true}
use Rattle.hls_text.specs.Lines.{Text}
use Rattle.hls_text.specs.Numbers.{is_digit, are_digits}
use Rattle.hls_text.proofs.NumberLaws.{digits_of_decimal, and_left, and_right}
use Rattle.hls_top_words.specs.Table.{HasNumber}
use Rattle.hls_top_words.specs.Inside.Shapes.{begins_with_digit}

-- a word of digits begins with one
begins : (word : Text) → 0 < length word → are_digits word ≡ true → begins_with_digit word ≡ true
begins [] some digits = absurd (omega (arith, some))
begins (b ∷ rest) some digits = and_left (is_digit b) (are_digits rest) digits

pub number_begins : (number : ℕ) → number < 2 ^ 32 → begins_with_digit (decimal number) ≡ true
number_begins number small =
    begins (decimal number) (decimal_nonempty number (omega (arith, small)))
    (digits_of_decimal number (omega (arith, small)))

pub record IsDigits (word : Text) : Type 0 where
  pub first : ℕ
  pub rest : Text
  pub small : first ≤ 9
  pub is : word ≡ (48 + first) ∷ rest

pub is_digits : (word : Text) → begins_with_digit word ≡ true → IsDigits word
is_digits [] digit = absurd cc
is_digits (b ∷ rest) digit =
    let above : nat_le 48 b ≡ true = and_left (nat_le 48 b) (nat_le b 57) digit in
    let below : nat_le b 57 ≡ true = and_right (nat_le 48 b) (nat_le b 57) digit in
    let least : 48 ≤ b = leb-true 48 b above in
    let most : b ≤ 57 = leb-true b 57 below in
    let same : b ≡ 48 + (b - 48) = omega (arith, least) in
    record {
      first = b - 48;
      rest = rest;
      small = omega (arith, most);
      is = ap (λ (c : ℕ). c ∷ rest) same;
    }

pub number_is_digits : (number : ℕ) → number < 2 ^ 32 → IsDigits (decimal number)
number_is_digits number small = is_digits (decimal number) (number_begins number small)

only_of : (first second : Text) → first ∷ [] ≡ second ∷ [] → first ≡ second
only_of first second e = cc

-- a number's word begins so
pub no_number : (words : List Text) (number : ℕ) (word : Text) → words ≡ word ∷ [] → HasNumber words number
    → begins_with_digit word ≡ true
no_number words number word one (small, is) =
    let same : decimal number ≡ word = only_of _ _ (sym is ∙ one) in
    subst (λ (w : Text). begins_with_digit w ≡ true) same (number_begins number small)
