-- Marks that texts lack, texts that are cut at their first mark, and the texts of numbers.
use Rattle.std.proofs.Common.{◌≡◌, ℕ, ◌+◌, ◌%◌, ◌^◌, ◌<◌, Bool, true, false}
use Rattle.std.proofs.Common.{[], ◌∷◌, ◌++◌, length, refl, sym, ap, ◌∙◌, arith, inl, inr}
use Rattle.std.specs.Prelude.{◌==◌, ◌||◌, ◌&&◌, decimal, fold, Some}
use Rattle.std.specs.List.{list_any}
use Rattle.std.specs.Str.{bytes_eq}
use Rattle.std.proofs.lemmas.Bool.{lt-ltb}
use Rattle.std.proofs.lemmas.Bool.Decides.{eqb_tells}
use Rattle.std.proofs.lemmas.List.Folds.{list_any-append}
use Rattle.std.proofs.lemmas.Fmt.{decimal_by_steps_wide}
use Rattle.std.proofs.lemmas.Slice.Eq.{bytes_eq-Decides}
use Rattle.hls_text.specs.Lines.{Text}
use Rattle.hls_text.specs.Decimals.{digit_step, value, number_below}
use Rattle.hls_text.proofs.FirstMarks.{position_first, parts_first}

abbrev pub Lacks : ℕ → Text → Type 0
Lacks m text = list_any (λ b. b == m) text ≡ false

ne-eqb : (a b : ℕ) → (a ≡ b → ⊥) → (a == b) ≡ false
ne-eqb a b ne = elim (eqb_tells a b) [ inl same ↦ absurd (ne same.1) | inr other ↦ other.0 ]

or_false : (a b : Bool) → a ≡ false → b ≡ false → (a || b) ≡ false
or_false true b e f = absurd cc
or_false false b e f = f

pub lacks_both : (m : ℕ) (xs ys : Text) → Lacks m xs → Lacks m ys → Lacks m (xs ++ ys)
lacks_both m xs ys a b = list_any-append (λ c. c == m) xs ys ∙ or_false _ _ a b

pub lacks_byte : (m b : ℕ) (bs : Text) → (b ≡ m → ⊥) → Lacks m bs → Lacks m (b ∷ bs)
lacks_byte m b bs ne a = or_false _ _ (ne-eqb b m ne) a

-- a text has one first mark
pub cut_same : (m : ℕ) (a b p q : Text) → a ++ (m ∷ b) ≡ p ++ (m ∷ q) → Lacks m a → Lacks m p
    → (a ≡ p) × (b ≡ q)
cut_same m a b p q same lacks_a lacks_p =
    let text : Text = a ++ (m ∷ b) in
    let found = sym (position_first m text a b refl lacks_a) in
    let first = parts_first m (length a) text a b found refl lacks_a in
    let second = parts_first m (length a) text p q found same lacks_p in
    (sym first.0 ∙ second.0, sym first.1 ∙ second.1)

pub both : (a b : Bool) → (a && b) ≡ true → (a ≡ true) × (b ≡ true)
both true b e = (refl, e)
both false b e = absurd cc

-- ---- numbers

-- digits are above every mark
digit_lacks : (m d : ℕ) → m < 48 → list_any (λ b. b == m) ((48 + d) ∷ []) ≡ false
digit_lacks m d lt = rw (ne-eqb (48 + d) m (λ e. omega arith)) refl

pub decimal-lacks : (m n : ℕ) → m < 48 → n < 10 ^ 64 → list_any (λ b. b == m) (decimal n) ≡ false
decimal-lacks m n lt fits =
    decimal_by_steps_wide (λ k ds. list_any (λ b. b == m) ds ≡ false) (λ k small. digit_lacks m k lt)
    (λ k ds big front.
    let last = digit_lacks m (k % 10) lt in
    list_any-append (λ b. b == m) ds ((48 + k % 10) ∷ []) ∙ rw front last) n fits

pub number_lacks : (m n : ℕ) → m < 48 → n < 10 ^ 64 → Lacks m (decimal n)
number_lacks m n lt fits = decimal-lacks m n lt fits

value_more : (v : ℕ) (ds : Text) (d : ℕ) → fold digit_step v (ds ++ d ∷ []) ≡ digit_step
    (fold digit_step v ds) d
value_more v [] d = refl
value_more v (b ∷ bs) d = value_more (digit_step v b) bs d

pub value_decimal : (n : ℕ) → n < 10 ^ 64 → value (decimal n) ≡ n
value_decimal n fits =
    decimal_by_steps_wide (λ k ds. value ds ≡ k) (λ k small. omega arith)
    (λ k ds big front. value_more 0 ds (48 + k % 10) ∙ (grind (arith, front))) n fits

pub number_same : (m n : ℕ) → m < 10 ^ 64 → n < 10 ^ 64 → decimal m ≡ decimal n → m ≡ n
number_same m n a b e = sym (value_decimal m a) ∙ ap value e ∙ value_decimal n b

pub number_again : (limit n : ℕ) → n < limit → n < 10 ^ 64 → number_below limit (decimal n) ≡ Some n
unfolding number_below
number_again limit n lt fits =
    let v = value_decimal n fits in
    let same : bytes_eq (decimal n) (decimal n) ≡ true = (bytes_eq-Decides (decimal n) (decimal n)).1 refl in
    rw (v, lt-ltb n limit lt, same) refl
