-- A token is a number exactly where it is the decimal text of that number.
use Rattle.std.proofs.Common.{◌≡◌, ℕ, suc, zero, ◌+◌, ◌-◌, ◌*◌, ◌^◌, ◌<◌, Bool, true, false, cond, [], ◌∷◌}
use Rattle.std.proofs.Common.{length, get_or, refl, sym, ap, ◌∙◌, subst, arith, rules}
use Rattle.std.specs.Prelude.{◌==◌, ◌&&◌, not, min, fold, decimal, Some, None, option_map}
use Rattle.std.proofs.lemmas.Grind.{common_steps}
use Rattle.std.proofs.lemmas.Fmt.{digits_value-decimal, decimal-digits_value, decimal_nonempty}
use Rattle.std.proofs.lemmas.Fmt.{first_decimal, decimal_digit, digits_decimal}
use Rattle.std.proofs.lemmas.Str.Parse.{IsNumeralModel, numerals_by_fold}
use Rattle.hls_text.specs.Lines.{Text}
use Rattle.hls_text.specs.Numbers.{is_digit, are_digits, is_number, value_from, number_of, last_number}
use Rattle.hls_text.specs.Numbers.{capped_step}

own : IsNumeralModel (λ ds. are_digits ds ≡ true) (value_from 0)
own = numerals_by_fold _ (search rules) value_from (search rules)

one_step : (n b : ℕ) → capped_step (min n (2 ^ 64 - 1)) b ≡ min (10 * n + (b - 48)) (2 ^ 64 - 1)
one_step n b = omega arith

-- what stops at each step stops in the end
capped : (token : Text) (n : ℕ)
    → fold capped_step (min n (2 ^ 64 - 1)) token ≡ min (value_from n token) (2 ^ 64 - 1)
capped [] n = refl
capped (b ∷ bs) n = ap (λ m. fold capped_step m bs) (one_step n b) ∙ capped bs (10 * n + (b - 48))

pub told : (token : Text) (value : ℕ) → is_number token ≡ true → value ≡ fold capped_step 0 token
    → Some value ≡ option_map (λ n. min n last_number) (number_of token)
told token value e f = rw e (ap (λ (n : ℕ). Some n) (f ∙ capped token 0))

pub and_left : (a b : Bool) → (a && b) ≡ true → a ≡ true
and_left true b e = refl
and_left false b e = absurd cc

pub and_right : (a b : Bool) → (a && b) ≡ true → b ≡ true
and_right true b e = e
and_right false b e = absurd cc

pub not_true : (b : Bool) → not b ≡ true → b ≡ false
not_true false e = refl
not_true true e = absurd cc

-- ---- what is read is a number's text

record Digits (token : Text) : Type 0 where
  digits : are_digits token ≡ true
  some : 0 < length token
  lead : get_or token 0 0 ≡ 48 → length token ≡ 1

number_is_digits : (token : Text) → is_number token ≡ true → Digits token
number_is_digits [] e = absurd cc
number_is_digits (b ∷ []) e = record { digits = rw e refl; some = omega arith; lead = λ z. refl }
number_is_digits (b ∷ c ∷ bs) e =
    let lead : (b == 48) ≡ false = not_true (b == 48) (and_left (not (b == 48)) _ e) in
    record {
      digits = and_right (not (b == 48)) _ e;
      some = omega arith;
      lead = λ z. absurd (let yes : (b == 48) ≡ true = rw z refl in cc);
    }

where_some : (b : Bool) (m n : ℕ) → cond b (Some m) None ≡ Some n → (b ≡ true) × (m ≡ n)
where_some true m n e = (refl, cc)
where_some false m n e = absurd cc

pub number_is : (token : Text) (n : ℕ) → n < 2 ^ 64 → number_of token ≡ Some n → token ≡ decimal n
number_is token n small e =
    let h = where_some (is_number token) (value_from 0 token) n e in
    let d = number_is_digits token h.0 in
    let fits : value_from 0 token < 2 ^ 64 = subst (λ (m : ℕ). m < 2 ^ 64) (sym h.1) small in
    sym (decimal-digits_value own token d.digits d.some d.lead fits) ∙ ap decimal h.1

-- ---- a number's text is read

number_shape : (token : Text) → 0 < length token → are_digits token ≡ true
    → (1 < length token → (get_or token 0 0 == 48) ≡ false) → is_number token ≡ true
number_shape [] some h lead = absurd (omega arith)
number_shape (b ∷ []) some h lead = and_left (is_digit b) true h
number_shape (b ∷ c ∷ cs) some h lead = rw (lead (omega arith), h) refl

-- the first digit of a number of two digits and more is not 0
lead_of : (n : ℕ) → n < 2 ^ 64 → 1 < length (decimal n) → (get_or (decimal n) 0 0 == 48) ≡ false
lead_of zero lt long = absurd (omega (arith, ap (λ (t : Text). length t) (decimal_digit 0 (omega arith))))
lead_of (suc n) lt long =
    let first : 48 < get_or (decimal (suc n)) 0 0 = first_decimal (suc n) (omega arith) lt in
    grind (arith, common_steps)

pub digits_of_decimal : (n : ℕ) → n < 2 ^ 64 → are_digits (decimal n) ≡ true
digits_of_decimal n lt = digits_decimal own n lt

pub number_again : (n : ℕ) → n < 2 ^ 64 → number_of (decimal n) ≡ Some n
number_again n lt =
    let num : is_number (decimal n) ≡ true =
    number_shape (decimal n) (decimal_nonempty n lt) (digits_of_decimal n lt) (lead_of n lt) in
    rw num (ap (λ (x : ℕ). Some x) (digits_value-decimal own n lt))
