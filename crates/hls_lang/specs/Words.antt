-- Reading a line's tokens from the left: the value and the tokens that are left, or the cause at the first
-- token that cannot stand.
use Rattle.std.specs.Prelude.{◌≡◌, ℕ, zero, suc, ◌^◌, ◌&&◌, nat_le, nat_lt}
use Rattle.std.specs.Prelude.{List, [], ◌∷◌, codes, Option, Some, None}
use Rattle.std.specs.Prelude.{Result, Ok, Err, if◌then◌else◌}
use Rattle.std.specs.Str.{bytes_eq}
use Rattle.std.proofs.Math.Nat.{zero-lt-suc}
use Rattle.hls_frac.specs.declared.Frac.{Frac}
use Rattle.hls_frac.proofs.Quotients.{quotient_of}
use Rattle.hls_text.specs.Lines.{Text}
use Rattle.hls_text.specs.Numbers.{number_of}
use Rattle.hls_text.specs.Cuts.{cut_at}
use Rattle.hls_chron.specs.Name.{is_name}
use Rattle.hls_lang.specs.declared.fault.Cause.{Cause}
use Rattle.hls_lang.specs.declared.fault.Cause.TheVariants.{Short, Extra, Word, Number, Name, Order, Late}
use Rattle.hls_lang.specs.declared.line_error.LineError.{LineError}
use Rattle.hls_lang.specs.declared.line_error.LineError.TheVariants as errors

infixl 10 ◌>>=◌
abbrev pub ◌>>=◌ : {A B : Type 0} → Result A Cause → (A → Result B Cause) → Result B Cause
(Ok x) >>= f = f x
(Err e) >>= f = Err e

-- a value, and the tokens that are left
abbrev pub Found : Type 0 → Type 0
Found A = Result (A × List Text) Cause

-- a token that is needed
abbrev pub token_at : List Text → Found Text
token_at [] = Err Short
token_at (t ∷ ts) = Ok (t, ts)

abbrev pub no_more : List Text → Result (Unit {0}) Cause
no_more [] = Ok tt
no_more (t ∷ ts) = Err Extra

-- this very word
abbrev pub word_test : Text → Text × List Text → Result (List Text) Cause
word_test word p = if bytes_eq p.0 word then Ok p.1 else Err Word

abbrev pub word_at : Text → List Text → Result (List Text) Cause
word_at word ts = token_at ts >>= word_test word

abbrev pub name_test : Text × List Text → Found Text
name_test p = if is_name p.0 then Ok p else Err Name

abbrev pub name_at : List Text → Found Text
name_at ts = token_at ts >>= name_test

abbrev pub in_range : (low high : ℕ) → Option ℕ → Option ℕ
in_range low high None = None
in_range low high (Some n) = if nat_le low n && nat_le n high then Some n else None

abbrev pub number_test : Option ℕ → List Text → Found ℕ
number_test None ts = Err Number
number_test (Some n) ts = Ok (n, ts)

-- a number in a range
abbrev pub number_at : (low high : ℕ) → List Text → Found ℕ
number_at low high ts = token_at ts >>= λ p. number_test (in_range low high (number_of p.0)) p.1

-- a tick that is no less than the last one and is below the horizon
abbrev pub tick_test : (horizon last : ℕ) → Option ℕ → List Text → Found ℕ
tick_test horizon last None ts = Err Number
tick_test horizon last (Some n) ts =
    if nat_lt n last then Err Order else (if nat_lt n horizon then Ok (n, ts) else Err Late)

abbrev pub tick_at : (horizon last : ℕ) → List Text → Found ℕ
tick_at horizon last ts = token_at ts >>= λ p. tick_test horizon last (number_of p.0) p.1

-- x and y, 1 ≤ x ≤ y ≤ most
unfoldable pub pair_at : (most : ℕ) → List Text → Result (ℕ × ℕ × List Text) Cause
pair_at most ts = number_at 1 most ts >>= λ x. number_at x.0 most x.1 >>= λ y. Ok (x.0, y.0, y.1)

-- ---- fractions

-- the fraction num / den in lowest terms
abbrev pub quotient : (num den : ℕ) → Option Frac
quotient num zero = None
quotient num (suc den) = Some (quotient_of num (suc den) (zero-lt-suc den)).0

-- numbers as they may be written in a scenario
abbrev pub narrow_quotient : Option ℕ → Option ℕ → Option Frac
narrow_quotient None den = None
narrow_quotient (Some num) None = None
narrow_quotient (Some num) (Some den) =
    if nat_le num (10 ^ 10) && nat_le den (10 ^ 6) then quotient num den else None

abbrev pub parts_fraction : Text → Option (Text × Text) → Option Frac
parts_fraction token None = narrow_quotient (number_of token) (number_of (codes "1"))
parts_fraction token (Some p) = narrow_quotient (number_of p.0) (number_of p.1)

-- a number, or a number, / and a number other than 0
unfoldable pub fraction_of : Text → Option Frac
fraction_of token = parts_fraction token (cut_at 47 token)

abbrev pub fraction_test : Option Frac → List Text → Found Frac
fraction_test None ts = Err Number
fraction_test (Some f) ts = Ok (f, ts)

abbrev pub fraction_at : List Text → Found Frac
fraction_at ts = token_at ts >>= λ p. fraction_test (fraction_of p.0) p.1

-- a fraction above 0 and at most 1
abbrev pub rate_test : Frac × List Text → Found Frac
rate_test p = if nat_le 1 p.0.num && nat_le p.0.num p.0.den then Ok p else Err Number

abbrev pub rate_at : List Text → Found Frac
rate_at ts = fraction_at ts >>= rate_test

-- ---- what the code gives

-- what was returned, seen by view, is what reading gives
abbrev pub Gives : {X Y : Type 0} → (X → Y) → Result X Cause → Result Y Cause → Type 0
Gives view (Ok x) read = read ≡ Ok (view x)
Gives view (Err cause) read = read ≡ Err cause

-- the same as Gives, unless memory is wanting
abbrev pub Keeps : {X Y : Type 0} → (X → Y) → Result X LineError → Result Y Cause → Type 0
Keeps view (Ok x) read = read ≡ Ok (view x)
Keeps view (Err (errors.Fault cause)) read = read ≡ Err cause
Keeps view (Err (errors.Memory error)) read = Unit {0}
