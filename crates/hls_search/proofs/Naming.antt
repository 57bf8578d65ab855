-- The rule of a name stands in a book.
use Rattle.std.proofs.Common.{◌≡◌, ℕ, ◌+◌, ◌<◌, ◌≤◌, List, length, map, ◌∙◌, ap, arith, below_more}
use Rattle.std.specs.Prelude.{Some, slice_get}
use Rattle.std.specs.Option.{option_map}
use Rattle.std.proofs.lemmas.Option.{slice_get-map, slice_get_within}
use Rattle.hls_guarantee.specs.declared.rule.RuleName.{RuleName}
use Rattle.hls_rules.specs.Book.{EachOnce}
use Rattle.hls_rules.proofs.Once.{once-place}

-- none of the first n rules has the name
abbrev pub NotBefore : List RuleName → RuleName → ℕ → Type 0
NotBefore names name n = (k : ℕ) → k < n → slice_get names k ≡ Some name → ⊥

pub not_before-more : {A : Type 0} (rules : List A) (f : A → RuleName) (name : RuleName) (n : ℕ) (rule : A)
    → slice_get rules n ≡ Some rule → (f rule ≡ name → ⊥) → NotBefore (map f rules) name n
    → NotBefore (map f rules) name (n + 1)
not_before-more rules f name n rule there other held =
    below_more (λ k. slice_get (map f rules) k ≡ Some name → ⊥) n held (λ same.
    let at : slice_get (map f rules) n ≡ Some (f rule) =
    slice_get-map f rules n ∙ ap (λ v. option_map f v) there in
    other (let is : Some (f rule) ≡ Some name = cc in cc))

pub named-somewhere : (names : List RuleName) (name : RuleName) (n : ℕ) → EachOnce names → length names ≤ n
    → NotBefore names name n → ⊥
named-somewhere names name n once all held =
    let place = once-place names name (once name) in
    let within = slice_get_within names place.0 name place.1 in
    held place.0 (omega arith) place.1
