-- A step of the search for a name above.
use Rattle.std.proofs.Common.{◌≡◌, ℕ, zero, suc, ◌≤◌, List, Option, Bool, true, false, ◌||◌, refl}
use Rattle.std.proofs.Common.{length, take, sym, ap, ◌∙◌, arith}
use Rattle.std.specs.List.{list_any}
use Rattle.std.proofs.lemmas.List.{take_all}
use Rattle.std.specs.Str.{bytes_eq}
use Rattle.hls_text.specs.Lines.{Text}
use Rattle.hls_report_text.specs.declared.report.Answered.{Answered}
use Rattle.hls_legal.specs.Commands.{last_seating}
use Rattle.hls_legal.specs.Under.{sits_on, is_within}

or_false : (a b : Bool) → a ≡ false → (a || b) ≡ b
or_false true b e = absurd (cc)
or_false false b e = refl

or_true : (a b : Bool) → a ≡ true → (a || b) ≡ true
or_true true b e = refl
or_true false b e = absurd (cc)

pub within-same : (before : List Answered) (steps : ℕ) (above name : Text) → bytes_eq name above ≡ true
    → is_within before steps above name ≡ true
unfolding is_within
within-same before zero above name e = e
within-same before (suc steps) above name e =
    or_true (bytes_eq name above) (sits_on (is_within before steps above) (last_seating name before)) e

pub within-none : (before : List Answered) (steps : ℕ) (above name : Text) → steps ≡ 0
    → is_within before steps above name ≡ bytes_eq name above
unfolding is_within
within-none before zero above name e = refl
within-none before (suc steps) above name e = absurd (omega arith)

pub within-step : (before : List Answered) (steps fewer : ℕ) (above name : Text) (found : Option Answered)
    → bytes_eq name above ≡ false → steps ≡ suc fewer → found ≡ last_seating name before
    → is_within before steps above name ≡ sits_on (is_within before fewer above) found
unfolding is_within
within-step before zero fewer above name found e more is = absurd (omega arith)
within-step before (suc steps) fewer above name found e more is =
    let same : steps ≡ fewer = omega arith in
    or_false (bytes_eq name above) (sits_on (is_within before steps above) (last_seating name before)) e
    ∙ ap (λ n. sits_on (is_within before n above) (last_seating name before)) same
    ∙ ap (sits_on (is_within before fewer above)) (sym is)

pub ruleset within_laws = (within-same, within-none)

pub any-none : {X : Type 0} (test : X → Bool) (xs : List X) (i : ℕ) → length xs ≤ i
    → list_any test (take i xs) ≡ false → false ≡ list_any test xs
any-none test xs i le none = sym none ∙ ap (list_any test) (take_all i xs le)
