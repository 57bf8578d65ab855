-- The columns of ticks.
use Rattle.std.proofs.Common.{◌≡◌, ℕ, ◌+◌, ◌-◌, ◌*◌, ◌/◌, ◌<◌, ◌≤◌, ap, sym, ◌∙◌, subst, arith}
use Rattle.std.proofs.Math.Nat.{add-div_right, div-mul-le_self, lt-div-mul-add}
use Rattle.std.proofs.lemmas.Nat.{div-mul-add}
use Rattle.hls_view_scale.specs.declared.scale.Scale.{Scale}
use Rattle.hls_view_scale.specs.Measures.{ticks_shown, ceiling}
use Rattle.hls_view_scale.specs.Columns.{ticks_in}
use Rattle.hls_view_signs.specs.Inside.Found.{column_of}

ceiling_is : (from to q : ℕ) → from ≤ to → 0 < q → (to - from) / q + 1 ≡ ceiling (ticks_shown from to) q
ceiling_is from to q order some =
    let n : to + 1 - from + q - 1 ≡ to - from + q = omega (arith, order, some) in
    sym (ap (λ k. k / q) n ∙ add-div_right (to - from) some)

pub columns_are : (s : Scale) → column_of s s.to + 1 ≡ s.columns
columns_are s =
    ceiling_is s.from s.to s.ticks s.ordered s.some
    ∙ ap (ceiling (ticks_shown s.from s.to)) s.ticks_are ∙ sym s.columns_are

-- a shown tick is one of its column's
pub record IsInside (s : Scale) (t k : ℕ) : Type 0 where
  pub from : s.from + k * s.ticks ≤ t
  pub until : t < s.from + k * s.ticks + ticks_in s k

pub inside_own : (s : Scale) (t k : ℕ) → s.from ≤ t → t ≤ s.to → column_of s t ≡ k → IsInside s t k
inside_own s t k from to is =
    let lower : (t - s.from) / s.ticks * s.ticks ≤ t - s.from = div-mul-le_self (t - s.from) s.ticks in
    let upper : t - s.from < (t - s.from) / s.ticks * s.ticks + s.ticks = lt-div-mul-add s.some in
    let low : k * s.ticks ≤ t - s.from = subst (λ n. n * s.ticks ≤ t - s.from) is lower in
    let high : t - s.from < k * s.ticks + s.ticks = subst (λ n. t - s.from < n * s.ticks + s.ticks) is upper in
    record {
      from = omega (arith, low, from);
      until = omega (arith, low, high, from, to);
    }

pub own_inside : (s : Scale) (t k : ℕ) → IsInside s t k → column_of s t ≡ k
own_inside s t k is =
    let from = is.from in
    let until = is.until in
    let rest : t - s.from ≡ k * s.ticks + (t - s.from - k * s.ticks) = omega (arith, from) in
    let few : t - s.from - k * s.ticks < s.ticks = omega (arith, from, until) in
    ap (λ n. n / s.ticks) rest ∙ div-mul-add k s.ticks (t - s.from - k * s.ticks) few

pub inside_shown : (s : Scale) (t k : ℕ) → IsInside s t k → (s.from ≤ t) × (t ≤ s.to)
inside_shown s t k is =
    let from = is.from in
    let until = is.until in (omega (arith, from), omega (arith, from, until))
