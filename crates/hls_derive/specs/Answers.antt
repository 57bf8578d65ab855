-- What a rule answers to a guarantee where another is wanted.
use Rattle.std.specs.Prelude.{◌≡◌, ◌⊎◌, Option, Some, None}
use Rattle.hls_guarantee.specs.declared.Guarantee.{Guarantee}
use Rattle.hls_guarantee.specs.declared.rule.RuleName.{RuleName}
use Rattle.hls_guarantee.specs.declared.rule.RuleName.TheVariants.{R1}
use Rattle.hls_guarantee.specs.Conversions.{Converts}

-- the strongest conclusion of a rule from g: it equals each other one, or gives it by R1
pub record IsStrongest (rule : RuleName) (g h : Guarantee) : Type 0 where
  pub concluded : Converts rule g h
  pub best : (k : Guarantee) → Converts rule g k → (k ≡ h) ⊎ Converts R1 h k

-- what is wanted where the rule concludes it; else the strongest conclusion where there is one; else none
pub record Answers (rule : RuleName) (g wanted : Guarantee) (answer : Option Guarantee) : Type 0 where
  pub meets : Converts rule g wanted → answer ≡ Some wanted
  pub leads : (Converts rule g wanted → ⊥) → (h : Guarantee) → IsStrongest rule g h → answer ≡ Some h
  pub lacks : (Converts rule g wanted → ⊥) → ((h : Guarantee) → IsStrongest rule g h → ⊥) → answer ≡ None
