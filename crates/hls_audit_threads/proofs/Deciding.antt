-- What a test decides.
use Rattle.std.proofs.Common.{◌≡◌, ℕ, ◌+◌, ◌<◌, ◌≤◌, ◌↔◌, inl, inr, refl, subst, sym, ◌∙◌, arith}
use Rattle.std.specs.Prelude.{Decides, Bool, true, false, not, IsTrue}
use Rattle.std.proofs.lemmas.Bool.{cases_eq}

pub so : {X : Type 0} → X → Decides true X
so x = (λ e. x, λ y. refl)

pub not_so : {X : Type 0} → ¬ X → Decides false X
not_so never = (λ e. absurd (let wrong : false ≡ true = e in cc), λ x. absurd (never x))

pub is_not : {X : Type 0} (b : Bool) → Decides b X → b ≡ false → ¬ X
is_not b d off x = let wrong : true ≡ false = sym (d.1 x) ∙ off in cc

pub decided : {X Y : Type 0} {b : Bool} → (X → Y) → (Y → X) → Decides b X → Decides b Y
decided to back d = (λ e. to (d.0 e), λ y. d.1 (back y))

-- a test of the opposite
pub unless : {X Y : Type 0} (b : Bool) → (IsTrue b ↔ Y) → (¬ Y → X) → (X → ¬ Y) → Decides (not b) X
unless true both to back = not_so (λ x. back x (both.0 refl))
unless false both to back = so (to (λ y. let wrong : false ≡ true = both.1 y in cc))

-- nowhere before a place, nor at it
pub none_more : (P : ℕ → Type 0) (i : ℕ) → ((k : ℕ) → k < i → ¬ P k) → ¬ P i → (k : ℕ) → k < i + 1 → ¬ P k
none_more P i before here k lt = elim (cases_eq k i) [
  | inl e ↦ λ p. here (subst P e p)
  | inr ne ↦ before k (omega arith)
]

-- what is nowhere below a bound, and nowhere from it on
pub nowhere : (P : ℕ → Type 0) (i end : ℕ) → end ≤ i → ((k : ℕ) → k < i → ¬ P k) → ((k : ℕ) → P k → k < end)
    → (k : ℕ) → ¬ P k
nowhere P i end le none early k is =
    let lt = early k is in none k (omega (arith, lt, le)) is
