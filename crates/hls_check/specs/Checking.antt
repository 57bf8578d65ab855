-- The steps of a derivation by number, and the first that fails.
use Rattle.std.specs.Prelude.{◌≡◌, ℕ, ◌+◌, ◌<◌, List, length, take, All, Some, None}
use Rattle.std.specs.Prelude.{Option, slice_get}
use Rattle.hls_chron.specs.Kinds.{kind_of}
use Rattle.hls_chron.specs.Ranges.{ConfigInRange, TermsInRange}
use Rattle.hls_guarantee.specs.declared.Guarantee.{Guarantee}
use Rattle.hls_guarantee.specs.Limits.{IsValid}
use Rattle.hls_guarantee.specs.Conversions.{Converts}
use Rattle.hls_guarantee.specs.Steps.{LendsThrough}
use Rattle.hls_derive.specs.declared.derivation.Place.{Place}
use Rattle.hls_derive.specs.declared.derivation.Step.{Step}
use Rattle.hls_derive.specs.declared.derivation.SchedStep.{SchedStep}
use Rattle.hls_derive.specs.declared.derivation.Derivation.{Derivation}
use Rattle.hls_derive.specs.Derivation.{end_of, last_of, AreValid}
use Rattle.hls_chron.specs.Kinds.{port_count}

-- conversion i of some steps, if there is one, is a conversion of what those before it reach from g
abbrev pub ConvertsAt : Guarantee → List Step → ℕ → Type 0
ConvertsAt g steps i =
    (s : Step) → slice_get steps i ≡ Some s → Converts s.rule (end_of g (take i steps)) s.to

-- the first of the steps that is none, where there is one
abbrev pub FindsWrong : Guarantee → List Step → Option ℕ → Type 0
FindsWrong g steps (Some at) =
    (at < length steps) × ((i : ℕ) → i < at → ConvertsAt g steps i) × (ConvertsAt g steps at → ⊥)
FindsWrong g steps None = (i : ℕ) → ConvertsAt g steps i

-- the scheduler step is of the place's kind, and leads from g as the place lends
pub record LendsAt (place : Place) (g : Guarantee) (s : SchedStep) : Type 0 where
  pub kind : s.kind ≡ kind_of place.config
  pub lends : LendsThrough place.config place.terms s.port g s.to

-- Step 0 is that the port has the first guarantee. The conversions and the scheduler step follow in their
-- order, from 1 on. The last step is that the end is what is wanted.
pub record StepHolds (place : Place) (haves : List Guarantee) (want : Guarantee) (d : Derivation) (k : ℕ)
    : Type 0 where
  pub starts : k ≡ 0 → slice_get haves d.sched.port ≡ Some d.from
  pub before : (i : ℕ) → k ≡ 1 + i → ConvertsAt d.from d.before i
  pub sched : k ≡ 1 + length d.before → LendsAt place (end_of d.from d.before) d.sched
  pub after : (i : ℕ) → k ≡ 2 + length d.before + i → ConvertsAt d.sched.to d.after i
  pub ends : k ≡ 2 + length d.before + length d.after → last_of d ≡ want

-- every step before it holds, and it does not
pub record FailsFirst (place : Place) (haves : List Guarantee) (want : Guarantee) (d : Derivation) (k : ℕ)
    : Type 0 where
  pub before : (j : ℕ) → j < k → StepHolds place haves want d j
  pub fails : StepHolds place haves want d k → ⊥

-- what is checked: numbers in their ranges, a guarantee for each port, and guarantees within the limits
pub record CanCheck (place : Place) (haves : List Guarantee) (want : Guarantee) (d : Derivation)
    : Type 0 where
  pub config : ConfigInRange place.config
  pub terms : TermsInRange place.terms
  pub ports : length haves ≡ port_count place.config
  pub each_have : All IsValid haves
  pub wanted : IsValid want
  pub from : IsValid d.from
  pub before : AreValid d.before
  pub sched : IsValid d.sched.to
  pub after : AreValid d.after
