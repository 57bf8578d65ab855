-- What stands at the front of a text, as the reader's private functions read it.
-- DerivationText says which texts derivations have.
use Rattle.std.specs.Prelude.{◌≡◌, ℕ, zero, suc, ◌-◌, ◌==◌, ◌&&◌, nat_le, List, [], ◌∷◌, ◌++◌}
use Rattle.std.specs.Prelude.{codes}
use Rattle.std.specs.Prelude.{Option, Some, None, if◌then◌else◌}
use Rattle.hls_text.specs.Cuts.{after_words}
use Rattle.hls_text.specs.Options.{◌>>=◌, first_of_two}
use Rattle.hls_chron.specs.declared.plain.Kind.{Kind}
use Rattle.hls_chron.specs.declared.plain.Kind.TheVariants.{Cpu, Fp, Edf, Sfq, Rr, Wheel, Join}
use Rattle.hls_guarantee.specs.declared.Guarantee.{Guarantee}
use Rattle.hls_guarantee.specs.declared.Guarantee.TheVariants.{All, Null}
use Rattle.hls_guarantee.specs.declared.rule.RuleName.{RuleName}
use Rattle.hls_guarantee.specs.declared.rule.RuleName.TheVariants.{R1, R2, R3, R4, R5, R6, R7, R8, R9, R10, R11}
use Rattle.hls_guarantee.specs.Limits.{IsValid}
use Rattle.hls_guarantee.specs.Spelling.{spelling}
use Rattle.hls_derive.specs.declared.derivation.Step.{Step}
use Rattle.hls_derive.specs.declared.derivation.SchedStep.{SchedStep}
use Rattle.hls_derive.specs.Derivation.{PortFits, AreValid}
use Rattle.hls_derive.specs.DerivationText.{step_text, sched_text, steps_text}

-- nothing, or a space and more: what may stand behind a word
abbrev pub IsEnd : List ℕ → Type 0
IsEnd [] = Unit {0}
IsEnd (b ∷ bs) = b ≡ 32

-- where the space stands before which there are so many, or where the text ends
abbrev pub place_of_space : (before : ℕ) → List ℕ → ℕ
place_of_space zero [] = 0
place_of_space (suc n) [] = 0
place_of_space zero (b ∷ bs) = if b == 32 then 0 else suc (place_of_space zero bs)
place_of_space (suc n) (b ∷ bs) =
    if b == 32 then suc (place_of_space n bs) else suc (place_of_space (suc n) bs)

-- how many spaces stand in the text of a guarantee
abbrev pub spaces_of : Guarantee → ℕ
spaces_of All = 0
spaces_of Null = 0
spaces_of _ = 2

-- the guarantee stands at the front of the text, and this behind it
pub record Stands (text : List ℕ) (g : Guarantee) (rest : List ℕ) : Type 0 where
  pub valid : IsValid g
  pub spelled : text ≡ spelling g ++ rest
  pub ends : IsEnd rest

-- the same of a conversion
pub record StepStands (text : List ℕ) (s : Step) (rest : List ℕ) : Type 0 where
  pub valid : IsValid s.to
  pub spelled : text ≡ step_text s ++ rest
  pub ends : IsEnd rest

-- of a step through a scheduler
pub record SchedStands (text : List ℕ) (s : SchedStep) (rest : List ℕ) : Type 0 where
  pub valid : IsValid s.to
  pub port : PortFits s.kind s.port
  pub spelled : text ≡ sched_text s ++ rest
  pub ends : IsEnd rest

-- and of conversions one after the other, behind which there is none
pub record StepsStand (text : List ℕ) (steps : List Step) (rest : List ℕ) : Type 0 where
  pub valid : AreValid steps
  pub spelled : text ≡ steps_text steps ++ rest
  pub ends : IsEnd rest
  pub all : (s : Step) (behind : List ℕ) → StepStands rest s behind → ⊥

-- ---- words

abbrev pub first_byte : List ℕ → Option (ℕ × List ℕ)
first_byte [] = None
first_byte (b ∷ bs) = Some (b, bs)

-- the rule of a digit
abbrev pub rule_of : ℕ → Option RuleName
rule_of digit =
    if digit == 49 then Some R1 else
    (if digit == 50 then Some R2 else
    (if digit == 51 then Some R3 else
    (if digit == 52 then Some R4 else
    (if digit == 53 then Some R5 else
    (if digit == 54 then Some R6 else
    (if digit == 55 then Some R7 else
    (if digit == 56 then Some R8 else
    (if digit == 57 then Some R9 else None))))))))

-- a rule of one digit between two spaces, and what stands behind it
abbrev pub rule_of_digit_at : List ℕ → Option (RuleName × List ℕ)
rule_of_digit_at text = do
  digits ← after_words (codes " R") text
  digit ← first_byte digits
  rule ← rule_of digit.0
  rest ← after_words (codes " ") digit.1
  Some (rule, rest)

abbrev pub of_rule : RuleName → List ℕ → Option (RuleName × List ℕ)
of_rule rule rest = Some (rule, rest)

-- any rule
unfoldable pub rule_at : List ℕ → Option (RuleName × List ℕ)
rule_at text =
    first_of_two (after_words (codes " R10 ") text) (of_rule R10)
    (first_of_two (after_words (codes " R11 ") text) (of_rule R11)
    (rule_of_digit_at text))

-- the port of a digit
abbrev pub port_of : ℕ → Option ℕ
port_of digit = if nat_le 48 digit && nat_le digit 51 then Some (digit - 48) else None

abbrev pub port_at : List ℕ → Option (Kind × ℕ × List ℕ)
port_at text = do
  digit ← first_byte text
  port ← port_of digit.0
  rest ← after_words (codes " ") digit.1
  Some (Join, port, rest)

abbrev pub of_kind : Kind → List ℕ → Option (Kind × ℕ × List ℕ)
of_kind kind rest = Some (kind, 0, rest)

-- a scheduler's word between two spaces, for a join with the port, and what stands behind it
unfoldable pub scheduler_at : List ℕ → Option (Kind × ℕ × List ℕ)
scheduler_at text =
    first_of_two (after_words (codes " CPU ") text) (of_kind Cpu)
    (first_of_two (after_words (codes " FP ") text) (of_kind Fp)
    (first_of_two (after_words (codes " EDF ") text) (of_kind Edf)
    (first_of_two (after_words (codes " SFQ ") text) (of_kind Sfq)
    (first_of_two (after_words (codes " RR ") text) (of_kind Rr)
    (first_of_two (after_words (codes " WHEEL ") text) (of_kind Wheel)
    (after_words (codes " JOIN ") text >>= port_at))))))
