-- Chains of conversions, and the words that a search asks: rules by name, one after the other.
use Rattle.std.specs.Prelude.{Contains, ◌≡◌, ℕ, ◌≤◌, false, List, [], ◌∷◌, length, map, Some}
use Rattle.hls_guarantee.specs.declared.Guarantee.{Guarantee}
use Rattle.hls_guarantee.specs.declared.Guarantee.TheVariants.{Resb, Resc}
use Rattle.hls_guarantee.specs.declared.rule.RuleName.{RuleName}
use Rattle.hls_guarantee.specs.declared.rule.RuleName.TheVariants.{R1, R2, R4, R5, R6, R7, R8, R9, R10, R11}
use Rattle.hls_guarantee.specs.Conversions.{Converts}
use Rattle.hls_derive.specs.declared.derivation.Step.{Step}
use Rattle.hls_derive.specs.Answers.{Answers}

-- conversions by these rules, in their order, lead from g to h
abbrev pub Reaches : (chain : List RuleName) → (g h : Guarantee) → Type 0
Reaches [] g h = g ≡ h
Reaches (rule ∷ rest) g h = (m : Guarantee) × Converts rule g m × Reaches rest m h

-- the rules of a derivation's conversions
abbrev pub rules_of : List Step → List RuleName
rules_of steps = map (λ (s : Step). s.rule) steps

-- what a rule is asked for that these rules follow: what is wanted, but windows in place of blocks
abbrev pub asked_before : (rest : List RuleName) → (wanted : Guarantee) → Guarantee
asked_before (rule ∷ rest) (Resb false x y) = Resc false x y
asked_before rest wanted = wanted

-- the answers of the rules lead from g to what is wanted
abbrev pub Walks : (word : List RuleName) → (g wanted : Guarantee) → Type 0
Walks [] g wanted = g ≡ wanted
Walks (rule ∷ rest) g wanted =
    (m : Guarantee) × Answers rule g (asked_before rest wanted) (Some m) × Walks rest m wanted

-- the words that suffice
abbrev pub words : List (List RuleName)
words =
    [] ∷ (R1 ∷ []) ∷ (R2 ∷ []) ∷ (R4 ∷ []) ∷ (R5 ∷ []) ∷ (R6 ∷ []) ∷ (R7 ∷ []) ∷ (R8 ∷ []) ∷ (R9 ∷ []) ∷
    (R10 ∷ []) ∷ (R11 ∷ []) ∷ (R2 ∷ R1 ∷ []) ∷ (R4 ∷ R1 ∷ []) ∷ (R4 ∷ R6 ∷ []) ∷ (R5 ∷ R1 ∷ []) ∷
    (R5 ∷ R6 ∷ []) ∷ (R10 ∷ R7 ∷ []) ∷ (R11 ∷ R7 ∷ []) ∷ []

abbrev pub IsWord : List RuleName → Type 0
IsWord word = Contains words word

-- some word of at most n rules leads from g to what is wanted
pub record IsFound (n : ℕ) (g wanted : Guarantee) : Type 0 where
  pub word : List RuleName
  pub known : IsWord word
  pub fits : length word ≤ n
  pub walks : Walks word g wanted

-- somewhere no other word of at most so many rules leads from the same guarantee to the same
pub record IsNeeded (word : List RuleName) : Type 0 where
  pub from : Guarantee
  pub to : Guarantee
  pub reaches : Reaches word from to
  pub alone : (other : List RuleName) → IsWord other → length other ≤ length word → Reaches other from to
      → other ≡ word
