-- What the steps of a legal run come to, in plainer words than their conditions.
use Rattle.std.specs.Prelude.{◌≡◌, ◌≢◌, ℕ, zero, suc, List, [], ◌∷◌, None}
use Rattle.hls_machine.specs.Hierarchy.{Hierarchy}
use Rattle.hls_machine.specs.Steps.{Step, Rouse}
use Rattle.hls_machine.specs.Legal.{SitsOn}
use Rattle.hls_machine.specs.Linked.{since_at}

-- c is so many seats below k
abbrev pub IsUnderBy : Hierarchy → (k count c : ℕ) → Type 0
IsUnderBy h k zero c = c ≡ k
IsUnderBy h k (suc count) c = (p : ℕ) × SitsOn h c p × IsUnderBy h k count p

-- c is k or below it
abbrev pub IsUnder : Hierarchy → (k c : ℕ) → Type 0
IsUnder h k c = (count : ℕ) × IsUnderBy h k count c

-- the accounts of k and of all that is below it, and no others, begin anew
pub record Renews (old : Hierarchy) (k : ℕ) (new : Hierarchy) : Type 0 where
  pub below : (c : ℕ) → IsUnder old k c → old.nodes c ≢ None → since_at new c ≡ old.now
  pub others : (c : ℕ) → ¬ IsUnder old k c → since_at new c ≡ since_at old c

-- none of these steps wakes k
abbrev pub IsRouseOf : (k : ℕ) → Step → Type 0
IsRouseOf k (Rouse c burst) = c ≡ k
IsRouseOf k _ = ⊥

abbrev pub LetSleep : (k : ℕ) → List Step → Type 0
LetSleep k [] = Unit {0}
LetSleep k (step ∷ steps) = (¬ IsRouseOf k step) × LetSleep k steps
