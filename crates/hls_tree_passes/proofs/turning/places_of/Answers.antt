use Rattle.std.proofs.Common.{◌≡◌, ◌-◌, ◌*◌, ◌%◌, ◌^◌, inl, inr, ap, ◌∙◌, arith}
use Rattle.std.specs.Int.{bit_at}
use Rattle.std.proofs.lemmas.Bool.{cases_lt}
use Rattle.std.proofs.lemmas.Nat.{one_shl}
use Rattle.std.proofs.lemmas.Nat.Bits.{bit_at_ones, bit_at_ones_above}
use Rattle.hls_tree_passes.proofs.Elapses.{bit_has, has_one}
use Rattle.hls_tree_passes.proofs.turning.places_of.Goals as goal

pub returns-then-count-ge64-clause-all : goal.returns-then-count-ge64-clause-all
returns-then-count-ge64-clause-all c at lt near = bit_has _ at (bit_at_ones 64 at near)

pub returns-then-count-ge64-clause-only : goal.returns-then-count-ge64-clause-only
returns-then-count-ge64-clause-only c at on = elim (cases_lt at 64) [
  | inl lt ↦ (let many = c.if-count-ge64.true in omega (arith, lt, many))
  | inr ge ↦ absurd (
      let one = has_one _ at on in
      let off = bit_at_ones_above 64 at (omega (arith, ge)) in
      omega (arith, one, off))
]

pub returns-clause-all : goal.returns-clause-all
returns-clause-all c at lt near = bit_has _ at (
    ap (λ n. bit_at (n - 1) at) (one_shl c.args.count 64 (omega (arith, c.if-count-ge64.false)))
    ∙ bit_at_ones c.args.count at lt)

pub returns-clause-only : goal.returns-clause-only
returns-clause-only c at on = elim (cases_lt at c.args.count) [
  | inl lt ↦ lt
  | inr ge ↦ absurd (
      let one = has_one _ at on in
      let off : bit_at (1 * 2 ^ c.args.count % 2 ^ 64 - 1) at ≡ 0 =
      ap (λ n. bit_at (n - 1) at) (one_shl c.args.count 64 (omega (arith, c.if-count-ge64.false)))
      ∙ bit_at_ones_above c.args.count at (omega (arith, ge)) in
      omega (arith, one, off))
]
