-- The length and the end of a derivation, and which derivations have a text.
use Rattle.std.specs.Prelude.{◌≡◌, ℕ, ◌+◌, ◌≤◌, List, length, fold, All}
use Rattle.hls_chron.specs.declared.plain.Kind.{Kind}
use Rattle.hls_chron.specs.declared.plain.Kind.TheVariants.{Join}
use Rattle.hls_guarantee.specs.declared.Guarantee.{Guarantee}
use Rattle.hls_guarantee.specs.Limits.{IsValid}
use Rattle.hls_derive.specs.declared.derivation.Step.{Step}
use Rattle.hls_derive.specs.declared.derivation.Derivation.{Derivation}

-- how many conversions there are
abbrev pub conversions : Derivation → ℕ
conversions d = length d.before + length d.after

-- where conversions lead that begin with this guarantee
abbrev pub end_of : Guarantee → List Step → Guarantee
end_of g steps = fold (λ reached (s : Step). s.to) g steps

-- the guarantee in which a derivation ends
abbrev pub last_of : Derivation → Guarantee
last_of d = end_of d.sched.to d.after

-- a join has at most four ports, and every other kind has port 0 alone
abbrev pub PortFits : Kind → ℕ → Type 0
PortFits Join port = port ≤ 3
PortFits _ port = port ≡ 0

abbrev pub AreValid : List Step → Type 0
AreValid steps = All (λ (s : Step). IsValid s.to) steps

-- the derivations that have a text: within the limits, of at most six conversions
pub record IsWithinGrammar (d : Derivation) : Type 0 where
  pub from : IsValid d.from
  pub before : AreValid d.before
  pub sched : IsValid d.sched.to
  pub after : AreValid d.after
  pub port : PortFits d.sched.kind d.sched.port
  pub depth : conversions d ≤ 6
