-- The number at the front of a text is read digit by digit.
use Rattle.std.proofs.Common.{◌≡◌, ℕ, ◌+◌, ◌-◌, ◌*◌, ◌^◌, ◌<◌, ◌≤◌, Bool, true, false, cond, [], ◌∷◌, ◌++◌}
use Rattle.std.proofs.Common.{refl, sym, ap, ◌∙◌, subst, arith, inl, inr, leb-true}
use Rattle.std.specs.Prelude.{◌==◌, ◌&&◌, ◌||◌, not, nat_lt, nat_le, decimal, Some, None}
use Rattle.std.proofs.lemmas.Bool.{eqb-true, lt-ltb}
use Rattle.std.proofs.lemmas.Bool.Decides.{eqb_tells}
use Rattle.hls_text.specs.Lines.{Text}
use Rattle.hls_text.specs.Numbers.{is_digit, are_digits, is_number, value_from, number_of}
use Rattle.hls_text.proofs.NumberLaws.{number_is, number_again, digits_of_decimal, and_left, and_right}
use Rattle.hls_report.specs.Inside.Digits.{may_begin, digits_to}

same_byte : (b : ℕ) → (b == b) ≡ true
same_byte b = elim (eqb_tells b b) [ inl same ↦ same.0 | inr other ↦ absurd (other.1 refl) ]

-- a digit is no end
pub no_end : (b end : ℕ) → end < 48 → is_digit b ≡ true → (b == end) ≡ false
no_end b end lt digit = by_test (b == end) refl
  where
    by_test : (t : Bool) → (b == end) ≡ t → t ≡ false
    by_test false e = refl
    by_test true e =
        let same = eqb-true b end e in
        let low : 48 ≤ b = leb-true 48 b (and_left (nat_le 48 b) _ digit) in absurd (omega (arith, same, low))

-- ---- what is read stands in the text

pub record Before (end v n : ℕ) (text rest : Text) : Type 0 where
  pub digits : Text
  pub is : text ≡ digits ++ end ∷ rest
  pub are : are_digits digits ≡ true
  pub value : value_from v digits ≡ n

some_pair : (a b : ℕ × Text) → Some a ≡ Some b → a ≡ b
some_pair a b e = cc

pub before : (end v n : ℕ) (text rest : Text) → digits_to end v text ≡ Some (n, rest)
    → Before end v n text rest
before end v n [] rest e = absurd cc
before end v n (b ∷ bs) rest e =
    by_test (b == end) refl (is_digit b && nat_lt v (2 ^ 32)) refl
    (before end (10 * v + (b - 48)) n bs rest) e
  where
    by_test : (t : Bool) → (b == end) ≡ t → (u : Bool) → (is_digit b && nat_lt v (2 ^ 32)) ≡ u
        → (digits_to end (10 * v + (b - 48)) bs ≡ Some (n, rest)
        → Before end (10 * v + (b - 48)) n bs rest)
        → cond t (Some (v, bs)) (cond u (digits_to end (10 * v + (b - 48)) bs) None) ≡ Some (n, rest)
        → Before end v n (b ∷ bs) rest
    by_test true te u ue more f =
        let same = some_pair (v, bs) (n, rest) f in
        let byte = eqb-true b end te in record {
          digits = [];
          is = ap (λ (x : ℕ). x ∷ bs) byte ∙ ap (λ (p : ℕ × Text). end ∷ p.1) same;
          are = refl;
          value = ap (λ (p : ℕ × Text). p.0) same;
        }
    by_test false te false ue more f = absurd cc
    by_test false te true ue more f =
        let m = more f in
        let digit = and_left (is_digit b) (nat_lt v (2 ^ 32)) ue in record {
          digits = b ∷ m.digits;
          is = ap (λ (t : Text). b ∷ t) m.is;
          are = rw digit m.are;
          value = m.value;
        }

-- the first byte is no leading zero
no_zero : (b c end : ℕ) → (c == end) ≡ false → (is_digit b && (not (b == 48) || c == end)) ≡ true
    → not (b == 48) ≡ true
no_zero b c end other e = by_test (not (b == 48)) refl
  where
    by_test : (t : Bool) → not (b == 48) ≡ t → t ≡ true
    by_test true f = refl
    by_test false f =
        let no : (not (b == 48) || c == end) ≡ false = rw (f, other) refl in
        absurd (let yes = and_right (is_digit b) _ e in let wrong = sym no ∙ yes in cc)

pub shape : (end : ℕ) (text digits rest : Text) → end < 48 → text ≡ digits ++ end ∷ rest
    → may_begin end text ≡ true → are_digits digits ≡ true → is_number digits ≡ true
shape end text digits rest lt is may are = by_digits digits (ap (may_begin end) (sym is) ∙ may) are
  where
    by_rest : (rest : Text) → may_begin end (end ∷ rest) ≡ true → is_digit end ≡ true
    by_rest [] may = absurd cc
    by_rest (c ∷ cs) may = and_left (is_digit end) _ may

    by_digits : (ds : Text) → may_begin end (ds ++ end ∷ rest) ≡ true → are_digits ds ≡ true
        → is_number ds ≡ true
    by_digits [] may are =
        absurd (let no = sym (no_end end end lt (by_rest rest may)) ∙ same_byte end in cc)
    by_digits (b ∷ []) may are = and_left (is_digit b) true are
    by_digits (b ∷ c ∷ ds) may are =
        let digit = and_left (is_digit c) _ (and_right (is_digit b) _ are) in
        rw (no_zero b c end (no_end c end lt digit) may) are

pub count_is : (end n : ℕ) (text rest : Text) → end < 48 → n < 2 ^ 32 → may_begin end text ≡ true
    → Some (n, rest) ≡ digits_to end 0 text → text ≡ decimal n ++ end ∷ rest
count_is end n text rest lt small may read =
    let b = before end 0 n text rest (sym read) in
    let number : number_of b.digits ≡ Some n = rw (shape end text b.digits rest lt b.is may b.are)
    (ap (λ (k : ℕ). Some k) b.value) in
    b.is ∙ ap (λ (t : Text). t ++ end ∷ rest) (number_is b.digits n (omega arith) number)

-- ---- what stands in the text is read

value_grows : (v : ℕ) (digits : Text) → v ≤ value_from v digits
value_grows v [] = omega arith
value_grows v (b ∷ bs) = let more = value_grows (10 * v + (b - 48)) bs in omega arith

read_on : (end v : ℕ) (digits rest : Text) → end < 48 → are_digits digits ≡ true
    → value_from v digits < 2 ^ 32 → digits_to end v (digits ++ end ∷ rest) ≡ Some (value_from v digits, rest)
read_on end v [] rest lt are small = rw (same_byte end) refl
read_on end v (b ∷ bs) rest lt are small =
    let digit = and_left (is_digit b) _ are in
    let grows = value_grows v (b ∷ bs) in
    rw (no_end b end lt digit, digit, lt-ltb v (2 ^ 32) (omega arith))
    (read_on end (10 * v + (b - 48)) bs rest lt (and_right (is_digit b) _ are) small)

or_true : (t : Bool) → (t || true) ≡ true
or_true true = refl
or_true false = refl

begins : (end : ℕ) (digits rest : Text) → is_number digits ≡ true → may_begin end (digits ++ end ∷ rest) ≡ true
begins end [] rest e = absurd cc
begins end (b ∷ []) rest e = rw (e, same_byte end) (or_true (not (b == 48)))
begins end (b ∷ c ∷ ds) rest e =
    rw (and_left (is_digit b) _ (and_right (not (b == 48)) _ e), and_left (not (b == 48)) _ e) refl

where_some : (t : Bool) (m n : ℕ) → cond t (Some m) None ≡ Some n → (t ≡ true) × (m ≡ n)
where_some true m n e = (refl, cc)
where_some false m n e = absurd cc

pub may_begin_count : (end n : ℕ) (text rest : Text) → n < 2 ^ 32 → text ≡ decimal n ++ end ∷ rest
    → may_begin end text ≡ true
may_begin_count end n text rest small is =
    let h = where_some (is_number (decimal n)) (value_from 0 (decimal n)) n (number_again n (omega arith)) in
    ap (may_begin end) is ∙ begins end (decimal n) rest h.0

pub count_again : (end n : ℕ) (text rest : Text) → end < 48 → n < 2 ^ 32 → text ≡ decimal n ++ end ∷ rest
    → digits_to end 0 text ≡ Some (n, rest)
count_again end n text rest lt small is =
    let h = where_some (is_number (decimal n)) (value_from 0 (decimal n)) n (number_again n (omega arith)) in
    ap (digits_to end 0) is
    ∙ read_on end 0 (decimal n) rest lt (digits_of_decimal n (omega arith))
    (subst (λ (m : ℕ). m < 2 ^ 32) (sym h.1) small)
    ∙ ap (λ (m : ℕ). Some (m, rest)) h.1

pub pair_parts : (p q : ℕ × Text) → Some p ≡ Some q → (p.0 ≡ q.0) × (p.1 ≡ q.1)
pair_parts p q e =
    let same = some_pair p q e in
    (ap (λ (r : ℕ × Text). r.0) same, ap (λ (r : ℕ × Text). r.1) same)
