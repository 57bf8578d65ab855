-- One tick, by its count.
use Rattle.std.proofs.Common.{◌≡◌, ℕ, ◌+◌, Bool, true, false, refl, ap, sym, ◌∙◌, ◌&&◌, not, arith, eqb}
use Rattle.std.proofs.lemmas.Bool.{false≢true}
use mathlib.Core.Bool.{beq}
use Rattle.hls_chron.specs.Ticks.{one_if, count}
use Rattle.hls_chron.proofs.CountLaws.{count-none, count-push}
use Rattle.hls_view_margins.specs.Inside.Tests.{counts}

pub count_one : (f : ℕ → Bool) (t : ℕ) → count f t 1 ≡ one_if (f t)
count_one f t =
    let here : f (t + 0) ≡ f t = ap f (omega arith) in
    let none = count-none f t in
    let push = count-push f t 0 in
    let same = ap one_if here in
    omega (arith, none, push, same)

is_one : (b : Bool) → eqb (one_if b) 1 ≡ b
is_one true = refl
is_one false = refl

pub on_by_count : (f : ℕ → Bool) (t n : ℕ) → n ≡ count f t 1 → eqb n 1 ≡ f t
on_by_count f t n e = ap (λ k. eqb k 1) (e ∙ count_one f t) ∙ is_one (f t)

and_true : (a : Bool) → a && true ≡ a
and_true true = refl
and_true false = refl

pub counts_by : (waiting : Bool) (f g : ℕ → Bool) (t : ℕ) → f t && not (waiting && g t) ≡ counts waiting f g t
counts_by true f g t = refl
counts_by false f g t = and_true (f t)

pub beq_same : (a b : Bool) → beq a b ≡ true → a ≡ b
beq_same true true e = refl
beq_same true false e = absurd (false≢true e)
beq_same false true e = absurd (false≢true e)
beq_same false false e = refl

pub beq_not : (a b : Bool) → beq a b ≡ false → a ≡ not b
beq_not true true e = absurd (false≢true (sym e))
beq_not true false e = refl
beq_not false true e = refl
beq_not false false e = absurd (false≢true (sym e))
