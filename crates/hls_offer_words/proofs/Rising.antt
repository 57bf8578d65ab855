-- Numbers that rise, as many as stand in front.
use Rattle.std.proofs.Common.{◌≡◌, ℕ, ◌+◌, ◌≤◌, List, [], ◌∷◌, ◌++◌, refl, sym, ap, ◌∙◌, arith, codes}
use Rattle.std.proofs.Common.{true, false, subst}
use Rattle.std.specs.Prelude.{Option, Some, None, decimal, map}
use Rattle.std.proofs.lemmas.Fmt.{decimal_injective}
use Rattle.hls_text.specs.Lines.{Text}
use Rattle.hls_text.specs.Numbers.{are_digits}
use Rattle.hls_text.proofs.NumberLaws.{digits_of_decimal}
use Rattle.hls_offer_words.specs.Table.{option_words, moment_words, Rise}
use Rattle.hls_offer_words.specs.Inside.Readings.{behind, AreFirst}

pub heads : (a b : Text) (more others : List Text) → a ∷ more ≡ b ∷ others → a ≡ b
heads a b more others e = cc

pub rests : (a b : Text) (more others : List Text) → a ∷ more ≡ b ∷ others → more ≡ others
rests a b more others e = cc

-- an option is no number
no_number : (option : Text) (n : ℕ) → are_digits option ≡ false → n ≤ 20000 → option ≡ decimal n → ⊥
no_number option n other le e =
    let digits = digits_of_decimal n (omega (arith, le)) in
    let same : are_digits option ≡ true = ap are_digits e ∙ digits in
    absurd (cc)

first_of : (b c : ℕ) (more others : Text) → b ∷ more ≡ c ∷ others → b ≡ c
first_of b c more others e = cc

pub words_apart : (b c : ℕ) (more others : Text) → (b ≡ c → ⊥) → b ∷ more ≡ c ∷ others → ⊥
words_apart b c more others apart e = apart (first_of b c more others e)

pub no_empty : (a : Text) (more : List Text) → [] ≡ a ∷ more → ⊥
no_empty a more e = absurd (cc)

depth_no_number : (depth : Option ℕ) (n : ℕ) (more : List Text) → n ≤ 20000
    → option_words (codes "--depth") depth ≡ decimal n ∷ more → ⊥
depth_no_number None n more le e = no_empty (decimal n) more e
depth_no_number (Some d) n more le e =
    no_number (codes "--depth") n refl le (heads (codes "--depth") (decimal n) (decimal d ∷ []) more e)

-- no moment begins with a number
pub moment_no_number : (at depth : Option ℕ) (n : ℕ) (more : List Text) → n ≤ 20000
    → moment_words at depth ≡ decimal n ∷ more → ⊥
moment_no_number None depth n more le e = depth_no_number depth n more le e
moment_no_number (Some at) depth n more le e =
    no_number (codes "--at") n refl le
    (heads (codes "--at") (decimal n) (decimal at ∷ option_words (codes "--depth") depth) more e)

-- what numbers are in front is determined by what comes behind them
pub only_first : (from most : ℕ) (words : List Text) (numbers : List ℕ) (rest : List Text) (others : List ℕ)
    (tail : List Text) → most ≤ 20000 → AreFirst from most words numbers rest → Rise from most others
    → words ≡ map decimal others ++ tail
    → ((n : ℕ) (more : List Text) → n ≤ 20000 → tail ≡ decimal n ∷ more → ⊥)
    → (numbers ≡ others) × (rest ≡ tail)
only_first from most words [] rest [] tail le first rise e bar = (refl, sym first.words_are ∙ e)
only_first from most words [] rest (n ∷ others) tail le first rise e bar =
    absurd (first.stuck n (map decimal others ++ tail) rise.0 rise.1 (sym first.words_are ∙ e))
only_first from most words (n ∷ numbers) rest [] tail le first rise e bar =
    absurd (bar n (map decimal numbers ++ rest) (let small = first.rise.1 in omega (arith, small, le))
    (sym e ∙ first.words_are))
only_first from most words (n ∷ numbers) rest (m ∷ others) tail le first rise e bar =
    let same = sym first.words_are ∙ e in
    let spelled = heads (decimal n) (decimal m) (map decimal numbers ++ rest) (map decimal others ++ tail) same in
    let more = rests (decimal n) (decimal m) (map decimal numbers ++ rest) (map decimal others ++ tail) same in
    let a = first.rise.1 in
    let b = rise.1 in
    let is : n ≡ m = decimal_injective n m (omega (arith, a, le)) (omega (arith, b, le)) spelled in
    let stuck = first.stuck in
    let behind_them = only_first (n + 1) most (map decimal numbers ++ rest) numbers rest others tail le
    (record { rise = first.rise.2; words_are = refl; stuck = stuck })
    (subst (λ (k : ℕ). Rise (k + 1) most others) (sym is) rise.2) more bar in
    (ap (λ (k : ℕ). k ∷ numbers) is ∙ ap (λ (ns : List ℕ). m ∷ ns) behind_them.0, behind_them.1)

-- ---- one number more

pub rising_more : (from most : ℕ) (numbers : List ℕ) (n : ℕ) → Rise from most numbers
    → behind from numbers ≤ n → n ≤ most
    → Rise from most (numbers ++ n ∷ []) × (behind from (numbers ++ n ∷ []) ≡ n + 1)
rising_more from most [] n rise le most_is = ((le, most_is, tt), refl)
rising_more from most (k ∷ numbers) n rise le most_is =
    let more = rising_more (k + 1) most numbers n rise.2 le most_is in
    ((rise.0, rise.1, more.0), more.1)

pub words_more : (words : List Text) (numbers : List ℕ) (n : ℕ) (rest more : List Text)
    → words ≡ map decimal numbers ++ rest → rest ≡ decimal n ∷ more
    → words ≡ map decimal (numbers ++ n ∷ []) ++ more
words_more words numbers n rest more e is = e ∙ ap (λ (r : List Text). map decimal numbers ++ r) is ∙ by numbers
  where
    by : (ns : List ℕ) → map decimal ns ++ decimal n ∷ more ≡ map decimal (ns ++ n ∷ []) ++ more
    by [] = refl
    by (k ∷ ns) = ap (λ (r : List Text). decimal k ∷ r) (by ns)
