-- Places that are looked at one after another, round and round.
use Rattle.std.proofs.Common.{◌≡◌, ℕ, ◌+◌, ◌-◌, ◌%◌, ◌<◌, ◌≤◌, sym, ap, ◌∙◌, arith, inl, inr}
use Rattle.std.specs.Prelude.{Option}
use Rattle.std.proofs.lemmas.Bool.{cases_lt}
use Rattle.std.proofs.Math.Nat.{mod_self, mod-eq_of_lt}
use Rattle.hls_wheel.proofs.Stretches.{same_round}

-- a place behind another, in a frame
place_behind : (frame n place j : ℕ) → place ≡ n % frame → place + j < frame → (n + j) % frame ≡ place + j
place_behind frame n place j is within =
    same_round frame n j ∙ ap (λ p. (p + j) % frame) (sym is) ∙ mod-eq_of_lt within

pub behind : (frame now ahead place j : ℕ) → place ≡ (now + ahead) % frame → place + j < frame
    → place + j ≡ (now + (ahead + j)) % frame
behind frame now ahead place j is within =
    let same : (now + ahead) + j ≡ now + (ahead + j) = omega arith in
    sym (place_behind frame (now + ahead) place j is within) ∙ ap (λ n. n % frame) same

-- the end of the frame is its beginning
pub begins_again : (frame now ahead place j : ℕ) → place ≡ (now + ahead) % frame → place + j ≡ frame
    → 0 ≡ (now + (ahead + j)) % frame
begins_again frame now ahead place j is end =
    let same : (now + ahead) + j ≡ now + (ahead + j) = omega arith in
    sym (same_round frame (now + ahead) j ∙ ap (λ p. (p + j) % frame) (sym is) ∙ ap (λ n. n % frame) end
    ∙ mod_self frame)
    ∙ ap (λ n. n % frame) same

pub more_alike : (owner : ℕ → Option ℕ) (frame now ahead place alike : ℕ) → place ≡ (now + ahead) % frame
    → place + alike ≤ frame → ((k : ℕ) → k < alike → owner (place + k) ≡ owner (now % frame))
    → ((k : ℕ) → k < ahead → owner ((now + k) % frame) ≡ owner (now % frame))
    → (k : ℕ) → k < ahead + alike → owner ((now + k) % frame) ≡ owner (now % frame)
more_alike owner frame now ahead place alike is within here before k less = elim (cases_lt k ahead) [
  | inl early ↦ before k early
  | inr late ↦
      let same : ahead + (k - ahead) ≡ k = omega (arith, late) in
      let lt : k - ahead < alike = omega (arith, less, late) in
      let at : place + (k - ahead) ≡ (now + (ahead + (k - ahead))) % frame =
      behind frame now ahead place (k - ahead) is (omega (arith, lt, within)) in
      ap (λ n. owner ((now + n) % frame)) (sym same) ∙ ap owner (sym at) ∙ here (k - ahead) lt
]
