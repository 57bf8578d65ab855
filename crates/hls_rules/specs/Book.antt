-- A book of rules.
use Rattle.std.specs.Prelude.{◌≡◌, ℕ, ◌==◌, Bool, true, false, List, count_by}
use Rattle.hls_guarantee.specs.declared.rule.RuleName.{RuleName}
use Rattle.hls_guarantee.specs.declared.rule.RuleName.TheVariants.{R1, R2, R3, R4, R5, R6, R7, R8, R9, R10, R11}

abbrev pub rule_number : RuleName → ℕ
rule_number R1 = 1
rule_number R2 = 2
rule_number R3 = 3
rule_number R4 = 4
rule_number R5 = 5
rule_number R6 = 6
rule_number R7 = 7
rule_number R8 = 8
rule_number R9 = 9
rule_number R10 = 10
rule_number R11 = 11

-- how often a name is among these
abbrev pub times_named : List RuleName → RuleName → ℕ
times_named names name = count_by (λ other. rule_number other == rule_number name) names

-- each of R1 to R11 is named once
abbrev pub EachOnce : List RuleName → Type 0
EachOnce names = (name : RuleName) → times_named names name ≡ 1

-- one of the two rules by which reservations are those of longer windows
abbrev pub is_longer : RuleName → Bool
is_longer R10 = true
is_longer R11 = true
is_longer _ = false
