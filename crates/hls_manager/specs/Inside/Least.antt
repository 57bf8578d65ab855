-- The refusal of least number among those of several ports, at the first port that has one of the number.
use Rattle.std.specs.Prelude.{ℕ, ◌<◌, ◌≤◌, Option, Some, None, Bool, false, if◌then◌else◌}
use Rattle.std.specs.Prelude.{nat_le, nat_lt}
use Rattle.hls_report_text.specs.declared.refusal.Refusal.{Refusal}
use Rattle.hls_legal.specs.Answers.{number}

-- of two refusals the one of the lesser number, the first where they have one number
abbrev pub lesser : Option Refusal → Refusal → Refusal
lesser None other = other
lesser (Some first) other = if nat_le (number first) (number other) then first else other

-- P says which refusals a port has. This one is the least of the first so many ports
pub record IsLeastOf (P : ℕ → Refusal → Type 0) (ports : ℕ) (r : Refusal) : Type 0 where
  pub port : ℕ
  pub within : port < ports
  pub refuses : P port r
  pub first : (before : ℕ) (other : Refusal) → before < port → P before other → number r < number other
  pub least : (at : ℕ) (other : Refusal) → at < ports → P at other → number r ≤ number other

-- it is that, or none of them has any
abbrev pub IsLeastRefusal : (P : ℕ → Refusal → Type 0) → (ports : ℕ) → Option Refusal → Type 0
IsLeastRefusal P ports None = (at : ℕ) (other : Refusal) → at < ports → P at other → ⊥
IsLeastRefusal P ports (Some r) = IsLeastOf P ports r

-- it is told before the refusals of a load for its height and for want of a box
abbrev pub is_early : Option Refusal → Bool
is_early None = false
is_early (Some r) = nat_lt (number r) 20
