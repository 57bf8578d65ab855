-- Slots in the cyclic order: how many of some slots come after one and before another.
use Rattle.std.proofs.Common.{◌≡◌, ◌≢◌, ℕ, ◌+◌, ◌<◌, ◌≤◌, Bool, true, false, refl, arith, inl, inr, sym, ◌∙◌}
use Rattle.std.specs.Prelude.{not, ◌&&◌, ◌==◌, nat_lt}
use Rattle.std.proofs.lemmas.Bool.{cases_lt, ne_eqb, lt-ltb, le-ltb}
use Rattle.hls_chron.specs.Ticks.{one_if}
use Rattle.hls_kinds.specs.Slots.{sum_below}
use Rattle.hls_kinds.specs.Turns.{turns_after}
use Rattle.hls_kinds.proofs.Sums.{sum-le, sum-one}

-- the other slots among those of the test
abbrev pub is_other : (among : ℕ → Bool) (slot s : ℕ) → Bool
is_other among slot s = not (s == slot) && among s

abbrev pub others : (among : ℕ → Bool) → ℕ → ℕ
others among slot = sum_below (λ s. one_if (is_other among slot s)) 32

-- and how many of them come after c and before the slot
abbrev pub comes_before : (among : ℕ → Bool) (slot c s : ℕ) → Bool
comes_before among slot c s = is_other among slot s && nat_lt (turns_after c s) (turns_after c slot)

abbrev pub ahead : (among : ℕ → Bool) (slot c : ℕ) → ℕ
ahead among slot c = sum_below (λ s. one_if (comes_before among slot c s)) 32

both_less : (a c : Bool) → one_if (a && c) ≤ one_if a
both_less true true = omega arith
both_less true false = omega arith
both_less false c = omega arith

less_if : (a c d : Bool) → (a ≡ true → c ≡ true → d ≡ true) → one_if (a && c) ≤ one_if (a && d)
less_if false c d implied = omega arith
less_if true false d implied = omega arith
less_if true true d implied = rw (implied refl refl) (omega arith)

pub ahead-few : (among : ℕ → Bool) (slot c : ℕ) → ahead among slot c ≤ others among slot
ahead-few among slot c =
    sum-le (λ s. one_if (comes_before among slot c s)) (λ s. one_if (is_other among slot s)) 32
    (λ s lt. both_less (is_other among slot s) (nat_lt (turns_after c s) (turns_after c slot)))

-- the one after which they come is not ahead
itself : (slot c : ℕ) → c < 32 → slot < 32 → nat_lt (turns_after c c) (turns_after c slot) ≡ false
itself slot c lt_c lt_slot = le-ltb (turns_after c c) (turns_after c slot) (omega arith)

pub ahead-fewer : (among : ℕ → Bool) (slot c : ℕ) → c < 32 → slot < 32 → c ≢ slot → among c ≡ true
    → ahead among slot c + 1 ≤ others among slot
ahead-fewer among slot c lt_c lt_slot apart is =
    let here : one_if (comes_before among slot c c) + 1 ≤ one_if (is_other among slot c) + 0 =
    rw (is, ne_eqb c slot apart, itself slot c lt_c lt_slot) (omega arith) in
    let sum = sum-one (λ s. one_if (comes_before among slot c s)) (λ s. one_if (is_other among slot s)) 32 c 1 0
    lt_c here
    (λ s lt ne. both_less (is_other among slot s) (nat_lt (turns_after c s) (turns_after c slot))) in
    omega (arith, sum)

-- who comes after s comes after c, where s does
later : (slot c s k : ℕ) → slot < 32 → c < 32 → s < 32 → k < 32 → turns_after c s < turns_after c slot
    → turns_after s k < turns_after s slot → turns_after c k < turns_after c slot
later slot c s k lt_slot lt_c lt_s lt_k before comes = omega (arith, before, comes)

ltb_lt : (a c : ℕ) → nat_lt a c ≡ true → a < c
ltb_lt a c is = elim (cases_lt a c) [
  | inl lt ↦ lt
  | inr ge ↦ absurd (let no = le-ltb a c ge in let clash : true ≡ false = sym is ∙ no in cc)
]

pub ahead-next : (among : ℕ → Bool) (slot c s : ℕ) → slot < 32 → c < 32 → s < 32 → s ≢ slot → among s ≡ true
    → turns_after c s < turns_after c slot → ahead among slot s + 1 ≤ ahead among slot c
ahead-next among slot c s lt_slot lt_c lt_s apart is before =
    let here : one_if (comes_before among slot s s) + 1 ≤ one_if (comes_before among slot c s) + 0 =
    rw (
      is,
      ne_eqb s slot apart,
      itself slot s lt_s lt_slot,
      lt-ltb (turns_after c s) (turns_after c slot) before,
    ) (omega arith) in
    let sum = sum-one (λ k. one_if (comes_before among slot s k)) (λ k. one_if (comes_before among slot c k)) 32 s 1 0
    lt_s here
    (λ k lt ne. less_if (is_other among slot k) (nat_lt (turns_after s k) (turns_after s slot))
    (nat_lt (turns_after c k) (turns_after c slot))
    (λ other comes. lt-ltb (turns_after c k) (turns_after c slot)
    (later slot c s k lt_slot lt_c lt_s lt before (ltb_lt (turns_after s k) (turns_after s slot) comes)))) in
    omega (arith, sum)

-- fewer come after who comes later
pub ahead-less : (among : ℕ → Bool) (slot c s : ℕ) → slot < 32 → c < 32 → s < 32
    → turns_after c s < turns_after c slot → ahead among slot s ≤ ahead among slot c
ahead-less among slot c s lt_slot lt_c lt_s before =
    sum-le (λ k. one_if (comes_before among slot s k)) (λ k. one_if (comes_before among slot c k)) 32
    (λ k lt. less_if (is_other among slot k) (nat_lt (turns_after s k) (turns_after s slot))
    (nat_lt (turns_after c k) (turns_after c slot))
    (λ other comes. lt-ltb (turns_after c k) (turns_after c slot)
    (later slot c s k lt_slot lt_c lt_s lt before (ltb_lt (turns_after s k) (turns_after s slot) comes))))

-- no two slots come equally far after one
pub after-one : (slot c s : ℕ) → slot < 32 → c < 32 → s < 32 → s ≢ slot → turns_after c s ≤ turns_after c slot
    → turns_after c s < turns_after c slot
after-one slot c s lt_slot lt_c lt_s apart le = omega (arith, le, apart)
