-- A list that names each rule once names it at one place.
use Rattle.std.proofs.Common.{◌≡◌, ℕ, zero, suc, ◌+◌, ◌<◌, ◌≤◌, Bool, true, false, List, [], ◌∷◌, refl, ap}
use Rattle.std.proofs.Common.{◌∙◌, arith, subst, cond}
use Rattle.std.specs.Prelude.{Some, slice_get, ◌==◌}
use Rattle.std.proofs.lemmas.Option.{slice_get_within}
use Rattle.std.proofs.lemmas.List.Sums.{sum_by-cons}
use Rattle.std.proofs.lemmas.Bool.Decides.{nat_tests}
use Rattle.hls_guarantee.specs.declared.rule.RuleName.{RuleName}
use Rattle.hls_guarantee.specs.declared.rule.RuleName.TheVariants.{R1, R2, R3, R4, R5, R6, R7, R8, R9, R10, R11}
use Rattle.hls_rules.specs.Book.{rule_number, times_named}

number_same : (a b : RuleName) → rule_number a ≡ rule_number b → a ≡ b
number_same R1 R1 e = refl
number_same R2 R2 e = refl
number_same R3 R3 e = refl
number_same R4 R4 e = refl
number_same R5 R5 e = refl
number_same R6 R6 e = refl
number_same R7 R7 e = refl
number_same R8 R8 e = refl
number_same R9 R9 e = refl
number_same R10 R10 e = refl
number_same R11 R11 e = refl
number_same a b e = cc

same_number : (m n : ℕ) → (m == n) ≡ true → m ≡ n
same_number m n e = grind (arith, nat_tests)

self_number : (n : ℕ) → (n == n) ≡ true
self_number n = grind (arith, nat_tests)

is_name : (a b : RuleName) → (rule_number a == rule_number b) ≡ true → a ≡ b
is_name a b e = number_same a b (same_number (rule_number a) (rule_number b) e)

no_name : (at : ℕ) (name : RuleName) → slice_get [] at ≡ Some name → ⊥
no_name at name there = (let within : at < 0 = slice_get_within [] at name there in omega arith)

head_is : (a b : RuleName) (names : List RuleName) → slice_get (a ∷ names) 0 ≡ Some b → a ≡ b
head_is a b names there = cc

-- one more name
counted-cons : (a name : RuleName) (names : List RuleName)
    → times_named (a ∷ names) name ≡ cond (rule_number a == rule_number name) 1 0 + times_named names name
counted-cons a name names = sum_by-cons (λ b. cond (rule_number b == rule_number name) 1 0) a names

more : (a name : RuleName) (names : List RuleName) → (rule_number a == rule_number name) ≡ true
    → times_named (a ∷ names) name ≡ 1 + times_named names name
more a name names e = counted-cons a name names ∙ ap (λ (b : Bool). cond b 1 0 + times_named names name) e

none_more : (n : ℕ) → 0 + n ≡ n
none_more n = omega arith

other : (a name : RuleName) (names : List RuleName) → (rule_number a == rule_number name) ≡ false
    → times_named (a ∷ names) name ≡ times_named names name
other a name names e =
    counted-cons a name names ∙ ap (λ (b : Bool). cond b 1 0 + times_named names name) e
    ∙ none_more (times_named names name)

place_by : (a name : RuleName) (names : List RuleName) (b : Bool) → (rule_number a == rule_number name) ≡ b
    → 1 ≤ times_named (a ∷ names) name
    → (1 ≤ times_named names name → (at : ℕ) × (slice_get names at ≡ Some name))
    → (at : ℕ) × (slice_get (a ∷ names) at ≡ Some name)
place_by a name names true e some later = (0, ap (λ (v : RuleName). Some v) (is_name a name e))
place_by a name names false e some later =
    let same = other a name names e in
    let found = later (omega arith) in
    (suc found.0, found.1)

at_least : (m n : ℕ) → n ≤ m + n
at_least m n = omega arith

grows : (a name : RuleName) (names : List RuleName) → times_named names name ≤ times_named (a ∷ names) name
grows a name names =
    let sum = counted-cons a name names in
    let most = at_least (cond (rule_number a == rule_number name) 1 0) (times_named names name) in
    omega arith

-- where a name is among some, it is at a place
place_of : (names : List RuleName) (name : RuleName) → 1 ≤ times_named names name
    → (at : ℕ) × (slice_get names at ≡ Some name)
place_of [] name some = absurd (omega arith)
place_of (a ∷ names) name some =
    place_by a name names (rule_number a == rule_number name) refl some (place_of names name)

-- what is at a place is counted
counted : (names : List RuleName) (name : RuleName) (at : ℕ) → slice_get names at ≡ Some name
    → 1 ≤ times_named names name
counted [] name at there = absurd (no_name at name there)
counted (a ∷ names) name zero there =
    let here : a ≡ name = head_is a name names there in
    let e : (rule_number a == rule_number name) ≡ true =
    subst (λ v. (rule_number a == rule_number v) ≡ true) here (self_number (rule_number a)) in
    let sum = more a name names e in
    omega arith
counted (a ∷ names) name (suc at) there =
    let rest = counted names name at there in
    let most = grows a name names in
    omega arith

-- at two places it is counted twice
apart : (names : List RuleName) (name : RuleName) (i j : ℕ) → times_named names name ≡ 1
    → slice_get names i ≡ Some name → slice_get names j ≡ Some name → i ≡ j
apart [] name i j one first second = absurd (no_name i name first)
apart (a ∷ names) name zero zero one first second = refl
apart (a ∷ names) name zero (suc j) one first second =
    let here : a ≡ name = head_is a name names first in
    let e : (rule_number a == rule_number name) ≡ true =
    subst (λ v. (rule_number a == rule_number v) ≡ true) here (self_number (rule_number a)) in
    let sum = more a name names e in
    let rest = counted names name j second in
    absurd (omega arith)
apart (a ∷ names) name (suc i) zero one first second =
    let here : a ≡ name = head_is a name names second in
    let e : (rule_number a == rule_number name) ≡ true =
    subst (λ v. (rule_number a == rule_number v) ≡ true) here (self_number (rule_number a)) in
    let sum = more a name names e in
    let rest = counted names name i first in
    absurd (omega arith)
apart (a ∷ names) name (suc i) (suc j) one first second =
    let rest = counted names name i first in
    let most = grows a name names in
    ap suc (apart names name i j (omega arith) first second)

pub once-place : (names : List RuleName) (name : RuleName) → times_named names name ≡ 1
    → (at : ℕ) × (slice_get names at ≡ Some name)
    × ((j : ℕ) → slice_get names j ≡ Some name → j ≡ at)
once-place names name one =
    let found = place_of names name (omega arith) in
    (found.0, found.1, λ j there. apart names name j found.0 one there found.1)
