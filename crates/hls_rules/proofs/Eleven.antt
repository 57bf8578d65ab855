-- The eleven names of rules.
use Rattle.std.proofs.Common.{◌≡◌, ℕ, List, [], ◌∷◌, take, refl, ap, sym, ◌∙◌, subst}
use Rattle.hls_guarantee.specs.declared.rule.RuleName.{RuleName}
use Rattle.hls_guarantee.specs.declared.rule.RuleName.TheVariants.{R1, R2, R3, R4, R5, R6, R7, R8, R9, R10, R11}
use Rattle.hls_rules.specs.Book.{EachOnce}

abbrev pub eleven : List RuleName
eleven = R1 ∷ R2 ∷ R3 ∷ R4 ∷ R5 ∷ R6 ∷ R7 ∷ R8 ∷ R9 ∷ R10 ∷ R11 ∷ []

pub each_once : EachOnce eleven
each_once R1 = refl
each_once R2 = refl
each_once R3 = refl
each_once R4 = refl
each_once R5 = refl
each_once R6 = refl
each_once R7 = refl
each_once R8 = refl
each_once R9 = refl
each_once R10 = refl
each_once R11 = refl

pub once : (names : List RuleName) (n : ℕ) → names ≡ take n eleven → n ≡ 11 → EachOnce names
once names n is all = subst (λ l. EachOnce l) (sym (is ∙ ap (λ k. take k eleven) all)) each_once
