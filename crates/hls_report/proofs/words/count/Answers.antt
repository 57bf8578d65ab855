use Rattle.std.proofs.Common.{◌≡◌, ℕ, ◌^◌, ◌<◌, refl, sym, ap, ◌∙◌, arith}
use Rattle.std.specs.Prelude.{min, decimal, Option, Some, None, option_map}
use Rattle.hls_text.specs.Lines.{Text}
use Rattle.hls_text.specs.Numbers.{number_of, last_number}
use Rattle.hls_text.proofs.NumberLaws.{number_is, number_again}
use Rattle.hls_text.proofs.WordLaws.{below_again, none_below}
use Rattle.hls_report.proofs.words.count.Goals as goal

-- what is told of a token's number
abbrev told : Option ℕ → Option ℕ
told q = option_map (λ n. min n last_number) q

found_by : (text : Text) (n : ℕ) (q : Option ℕ) → n < 2 ^ 32 → number_of text ≡ q → Some n ≡ told q
    → text ≡ decimal n
found_by text n None lt is e = absurd cc
found_by text n (Some m) lt is e =
    let same : n ≡ min m last_number = cc in
    let whole : m ≡ n = omega arith in
    number_is text n (omega arith) (is ∙ ap (λ (k : ℕ). Some k) whole)

found : (text : Text) (n : ℕ) → n < 2 ^ 32 → Some n ≡ told (number_of text) → text ≡ decimal n
found text n lt e = found_by text n (number_of text) lt refl e

again : (text : Text) (k : ℕ) → k < 2 ^ 32 → text ≡ decimal k → told (number_of text) ≡ Some k
again text k lt is =
    let capped : min k last_number ≡ k = omega arith in
    ap told (ap number_of is ∙ number_again k (omega arith)) ∙ ap (λ (n : ℕ). Some n) capped

pub returns-in-Some-clause-read : goal.returns-in-Some-clause-read
returns-in-Some-clause-read c =
    below_again (2 ^ 32) c.in-Some.n c.args.text.now (omega arith) (omega arith)
    (found c.args.text.now c.in-Some.n (omega arith) c.in-Some.ensures)

pub returns-in-Some-clause-found : goal.returns-in-Some-clause-found
returns-in-Some-clause-found c = found c.args.text.now c.in-Some.n (omega arith) c.in-Some.ensures

pub returns-in_default-clause-read : goal.returns-in_default-clause-read
returns-in_default-clause-read c =
    sym (none_below (2 ^ 32) c.args.text.now (λ k lt is.
    let same = c.in-Some.ensures ∙ again c.args.text.now k lt is in
    let whole : c.in-Some.n ≡ k = cc in omega arith))

pub returns-in_default-2-clause-read : goal.returns-in_default-2-clause-read
returns-in_default-2-clause-read c =
    sym (none_below (2 ^ 32) c.args.text.now (λ k lt is.
    let same = c.in_default.ensures ∙ again c.args.text.now k lt is in cc))
