-- Conversions by place, and as a whole.
use Rattle.std.proofs.Common.{◌≡◌, ℕ, zero, suc, ◌+◌, ◌<◌, ◌≤◌, List, [], ◌∷◌, take, length, refl, sym, ap}
use Rattle.std.proofs.Common.{subst, arith, ◌⊎◌, inl, inr}
use Rattle.std.proofs.lemmas.Bool.{cases_lt}
use Rattle.std.specs.Prelude.{Some, slice_get}
use Rattle.std.proofs.lemmas.Option.{slice_get_within}
use Rattle.hls_guarantee.specs.declared.Guarantee.{Guarantee}
use Rattle.hls_guarantee.specs.Conversions.{Converts}
use Rattle.hls_derive.specs.declared.derivation.Step.{Step}
use Rattle.hls_derive.specs.Derivation.{end_of}
use Rattle.hls_derive.specs.Derives.{FollowsBy}
use Rattle.hls_check.specs.Checking.{ConvertsAt}

no_step : (i : ℕ) (s : Step) → slice_get [] i ≡ Some s → ⊥
no_step i s at = (let within : i < 0 = slice_get_within [] i s at in omega arith)

first_is : (s t : Step) (steps : List Step) → slice_get (s ∷ steps) 0 ≡ Some t → s ≡ t
first_is s t steps at = cc

last_or : (i n : ℕ) → i < n + 1 → (i < n) ⊎ (i ≡ n)
last_or i n below = elim (cases_lt i n) [ inl less ↦ inl less | inr more ↦ inr (omega arith) ]

-- what is reached one step further on
pub end-next : (g : Guarantee) (steps : List Step) (i : ℕ) (s : Step) → slice_get steps i ≡ Some s
    → end_of g (take (suc i) steps) ≡ s.to
end-next g [] i s at = absurd (no_step i s at)
end-next g (t ∷ steps) zero s at = ap (λ (v : Step). v.to) (first_is t s steps at)
end-next g (t ∷ steps) (suc i) s at = end-next t.to steps i s at

pub follows-at : (g : Guarantee) (steps : List Step) → FollowsBy g steps → (i : ℕ) → ConvertsAt g steps i
follows-at g [] follow i = λ s at. absurd (no_step i s at)
follows-at g (t ∷ steps) follow zero = λ s at.
    subst (λ (v : Step). Converts v.rule g v.to) (first_is t s steps at) follow.0
follows-at g (t ∷ steps) follow (suc i) = λ s at. follows-at t.to steps follow.1 i s at

pub at-follows : (g : Guarantee) (steps : List Step) → ((i : ℕ) → ConvertsAt g steps i) → FollowsBy g steps
at-follows g [] at = tt
at-follows g (t ∷ steps) at = (at 0 t refl, at-follows t.to steps (λ i s there. at (suc i) s there))

-- one more conversion holds
pub more-hold : (g reached : Guarantee) (steps : List Step) (at : ℕ) (s : Step) → slice_get steps at ≡ Some s
    → reached ≡ end_of g (take at steps) → Converts s.rule reached s.to
    → ((i : ℕ) → i < at → ConvertsAt g steps i) → (i : ℕ) → i < at + 1 → ConvertsAt g steps i
more-hold g reached steps at s there is leads held i below = elim (last_or i at below) [
  | inl less ↦ held i less
  | inr same ↦ λ t other.
      let one : slice_get steps at ≡ Some t = subst (λ n. slice_get steps n ≡ Some t) same other in
      let step : s ≡ t = cc in
      subst (λ n. Converts t.rule (end_of g (take n steps)) t.to) (sym same)
      (subst (λ (v : Step). Converts v.rule (end_of g (take at steps)) v.to) step
      (subst (λ v. Converts s.rule v s.to) is leads))
]

-- past the last of them there is none
pub all-hold : (g : Guarantee) (steps : List Step) (at : ℕ) → length steps ≤ at
    → ((i : ℕ) → i < at → ConvertsAt g steps i) → (i : ℕ) → ConvertsAt g steps i
all-hold g steps at past held i = λ s there.
    let within = slice_get_within steps i s there in held i (omega arith) s there
